use Rattle.std.proofs.Common.{◌++◌, [], take, refl, sym, subst, ap, ◌∙◌}
use Rattle.std.specs.Prelude.{flat_map}
use Rattle.am_wire.specs.Fields.{rows_of}
use Rattle.am_wire.specs.declared.unknown.Unknown.TheVariants.{Keep}
use Rattle.am_commands.specs.Sending.{IsSendingOf}
use Rattle.am_commands.proofs.Sendings.{none_sent, rows_more, flat_more}
use Rattle.am_commands.proofs.mending.Mending.to_send.Goals as goal

pub loop-row-init : goal.loop-row-init
loop-row-init g c = record {
  messages = [];
  whole = refl;
  sending =
      rw (c.new.ensures.items, c.new-2.ensures)
      (none_sent g.V.Version.seen g.V.Key.Ord.cmp (g.V.Message.reads Keep) g.V.Candidate.is_hazard c.args.self.now.all c.args.self.now.moment c.args.held.now);
}

pub loop-row-preserved : goal.loop-row-preserved
loop-row-preserved g c =
    let rows = c.deref-row-items.result.now in
    subst
    (λ messages.
    IsSendingOf g.V.Version.seen g.V.Key.Ord.cmp (g.V.Message.reads Keep) g.V.Candidate.is_hazard c.args.self.now.all c.args.self.now.moment c.args.held.now
    messages c.add_row.new.sent.rows.items c.add_row.new.sent.versions)
    (ap (λ one. flat_map (λ row. rows_of row.items) (take c.loop-row.row-index rows) ++ rows_of one) (c.deref.ensures.value ∙ ap (λ row. row.items) c.row-item.is)
    ∙ sym (flat_more (λ row. rows_of row.items) rows c.loop-row.row-index c.row-item.result c.loop-row-test.true))
    (rows_more g.V.Version.seen g.V.Key.Ord.cmp (g.V.Message.reads Keep) g.V.Candidate.is_hazard c.args.self.now.all c.args.self.now.moment c.args.held.now
    (flat_map (λ row. rows_of row.items) (take c.loop-row.row-index rows)) (rows_of c.deref.result.now) _ _ _ _ c.loop-row.invariant c.in_ok-add_row.ensures)
