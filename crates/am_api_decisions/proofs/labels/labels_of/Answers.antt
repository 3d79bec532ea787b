use Rattle.std.proofs.Common.{◌≡◌, Some, sym, ◌∙◌}
use Rattle.serde_json.specs.Find.{as_str}
use Rattle.serde_json.specs.View.{view}
use Rattle.serde_json.proofs.Views.{Entry}
use Rattle.am_api_decisions.proofs.Labelled.{one_label, all_labels}
use Rattle.am_api_decisions.proofs.Ordered.{in_order}
use Rattle.am_api_decisions.proofs.labels.labels_of.Goals as goal

pub loop-name-preserved : goal.loop-name-preserved
loop-name-preserved c =
    let e : Entry = (c.in-Some.name.now, c.in-Some.value.now) in
    let text : as_str (view c.in-Some.value.now) ≡ Some c.in-Some-as_str.text.now = sym c.in-Some-as_str.ensures in
    let one = one_label c.loop-name.labels.items c.loop-name.name-iterator c.next.new.self e c.in-Some-as_str.text.now c.in-Some.ensures.steps text in
    rw (c.in_ok-push.ensures.items, c.in_ok-label.ensures, c.as_str-in-loop-name.ensures.value) (sym one ∙ c.loop-name.invariant)

pub returns-clause-in_order : goal.returns-clause-in_order
returns-clause-in_order c =
    let read = sym c.loop-name.invariant ∙ all_labels c.loop-name.labels.items c.loop-name.name-iterator c.in-None.ensures.steps.0 in
    rw c.new.ensures (in_order c.args.members.now.entries c.loop-name.labels.items read c.iter-name-items.ensures.ordered)
