use Rattle.std.proofs.Common.{◌∙◌, Ok, Bool, inl, inr, sym, ap}
use Rattle.am_merge.proofs.Keys.{key_order}
use Rattle.am_wire.specs.declared.unknown.Unknown.TheVariants.{Keep}
use Rattle.am_commands.proofs.Sendings.{not_sent, sent_more, hazardous, harmless}
use Rattle.am_commands.proofs.mending.Mending.add.Goals as goal
use Rattle.am_commands.proofs.mending.Mending.add.Goals.{then-not-is_sent-via-then-not-is_sent, then-not-is_sent-via-else-not-is_sent+in_ok-hazard+then-is_some}

pub returns-then-not-is_sent : goal.returns-then-not-is_sent
returns-then-not-is_sent g c = λ before sending.
    not_sent g.V.Version.seen g.V.Key.Ord.cmp (g.V.Message.reads Keep) g.V.Candidate.is_hazard c.args.self.now.all c.args.self.now.moment c.args.held.now
    before _ _ _ c.in-Ok.version sending c.in-Ok.ensures
    (elim c.then-not-is_sent.branch [
      | then-not-is_sent-via-then-not-is_sent w ↦ inl (sym w.if-not-is_sent.ensures.sent)
      | then-not-is_sent-via-else-not-is_sent+in_ok-hazard+then-is_some w ↦
          inr (inl (hazardous (λ o. g.V.Candidate.is_hazard c.in-Ok.version o) w.in_ok-hazard.field-0 w.in_ok-hazard.ensures w.if-is_some.ensures))
    ])

pub returns-then-not-branch : goal.returns-then-not-branch
returns-then-not-branch g c = λ before sending.
    rw (c.in_ok-insert_new.ensures.held (ap (λ (b : Bool). Ok b) c.if-not-branch.true))
    (not_sent g.V.Version.seen g.V.Key.Ord.cmp (g.V.Message.reads Keep) g.V.Candidate.is_hazard c.args.self.now.all c.args.self.now.moment c.args.held.now
    before _ _ _ c.in-Ok.version sending c.in-Ok.ensures (inr (inr (sym c.in_ok-insert_new.ensures.answer ∙ c.if-not-branch.true))))

pub returns : goal.returns
returns g c = λ before sending.
    let keys = key_order g.met.V.Key.Ord.total g.met.V.Version.exact_keys in
    sent_more g.V.Version.seen g.V.Key.Ord.cmp (g.V.Message.reads Keep) g.V.Candidate.is_hazard c.args.self.now.all c.args.self.now.moment c.args.held.now
    before _ _ _ c.in-Ok.version sending c.in-Ok.ensures _ _ keys (sym c.if-not-is_sent.ensures.sent)
    (harmless (λ o. g.V.Candidate.is_hazard c.in-Ok.version o) c.in_ok-hazard.field-0 c.in_ok-hazard.ensures c.if-is_some.ensures)
    (c.in_ok-insert_new.ensures.put (ap (λ (b : Bool). Ok b) c.if-not-branch.false)).joined c.in_ok-append_delimited.ensures
