use Rattle.std.proofs.Common.{◌≡◌, Some, get_or, sym, ◌∙◌}
use Rattle.am_schedule.specs.Tables.{value_in}
use Rattle.am_schedule.proofs.Values.{value_here, values_end}
use Rattle.am_schedule.proofs.States.{version_behind, all_behind, gives_read}
use Rattle.am_schedule.proofs.versions.versions_of.Goals as goal

pub loop-label-preserved : goal.loop-label-preserved
loop-label-preserved c =
    let is : value_in c.args.versions.now (get_or c.args.labels.now c.loop-label.label-index _).now ≡ Some c.in_ok-version.version.now = sym (rw c.in_ok-version.ensures.ok_part at c.look_up.ensures) in
    rw (c.in_ok-push_version.ensures.silences, c.in_ok-push_version.ensures.log)
    (version_behind _ _ c.in_ok-version.version.now _ ∙ rw (value_here (value_in c.args.versions.now) _ _ _ c.in_ok-version.version.now c.loop-label-test.true is) at c.loop-label.invariant)

pub returns : goal.returns
returns c = gives_read _ _ (c.of_one_state.ensures ∙ sym (all_behind _ _) ∙ rw (values_end (value_in c.args.versions.now) _ _ c.loop-label-test.false) at c.loop-label.invariant)
