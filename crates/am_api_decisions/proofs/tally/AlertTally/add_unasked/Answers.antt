use Rattle.std.proofs.Common.{◌≡◌, List, [], ◌∷◌, map, refl, sym, ap, ◌∙◌, length, arith}
use Rattle.std.specs.Vec.Iter.{into_iter_items}
use Rattle.std.proofs.lemmas.List.{nil_from_length}
use Rattle.am_api_decisions.specs.declared.message.Alert.{Alert}
use Rattle.am_api_decisions.specs.Asking.{AskedAlert, Counted, counted_with, unasked}
use Rattle.am_api_decisions.proofs.AskedMore.{counted_more, counted_none}
use Rattle.am_api_decisions.proofs.tally.AlertTally.add_unasked.Goals as goal

pub loop-alert-init : goal.loop-alert-init
loop-alert-init c = rw c.into_iter-alert-iterator.ensures.into_iter_gives (refl, c.requires)

pub loop-alert-preserved : goal.loop-alert-preserved
loop-alert-preserved c =
    let before = c.loop-alert.invariant in
    let first = c.in-Some.ensures.steps in
    let others : List AskedAlert = map unasked (into_iter_items c.next.new.self) in (
      ap (λ (counted : Counted). counted_with counted others) c.in_ok-add_open.ensures
          ∙ counted_more c.loop-alert.self (unasked c.in-Some.alert ∷ []) others
          ∙ ap (λ (alerts : List Alert). counted_with c.loop-alert.self (map unasked alerts)) (sym first.0) ∙ before.0,
      omega (arith, first.1, ap length first.0, before.1),
    )

pub returns : goal.returns
returns c =
    let before = c.loop-alert.invariant in
    let none : into_iter_items c.loop-alert.alert-iterator ≡ [] = nil_from_length _ (sym before.1 ∙ c.in-None.ensures.steps.0) in
    counted_none c.loop-alert.self ∙ ap (λ (alerts : List Alert). counted_with c.loop-alert.self (map unasked alerts)) (sym none) ∙ before.0
