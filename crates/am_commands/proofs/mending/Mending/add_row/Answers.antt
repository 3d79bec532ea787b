use Rattle.std.proofs.Common.{[], sym, ◌∙◌, append-nil}
use Rattle.am_wire.specs.declared.unknown.Unknown.TheVariants.{Keep}
use Rattle.am_commands.proofs.Sendings.{row_more}
use Rattle.am_commands.proofs.mending.Mending.add_row.Goals as goal

pub loop-text-init : goal.loop-text-init
loop-text-init g c = ([], sym (c.into_iter-text-iterator.ensures.into_iter_gives ∙ c.new-text-items.ensures), λ before sending. rw append-nil sending)

pub loop-text-preserved : goal.loop-text-preserved
loop-text-preserved g c =
    let (messages, parts, was) = c.loop-text.invariant in
    row_more g.V.Version.seen g.V.Key.Ord.cmp (g.V.Message.reads Keep) g.V.Candidate.is_hazard c.args.self.now.all c.args.self.now.moment c.args.held.now
    _ messages c.loop-text.text-iterator c.next.new.self c.in-Ok.text.now _ _ _ _ _ _ parts (rw c.in-Ok.is at c.in-Some.ensures.steps) was c.in_ok-add.ensures
