use Rattle.std.proofs.Common.{◌≡◌, ℕ, ◌≤◌, List, length, max, ap, subst, arith}
use Rattle.std.proofs.Math.Nat.{le-max_left, le-max_right}
use Rattle.std.proofs.lemmas.List.{take_all}
use Rattle.std.proofs.lemmas.List.Elements.{All-more}
use Rattle.am_matcher.specs.declared.labels.Label.{Label}
use Rattle.am_api_decisions.specs.ParsedCalls.{AreWithin}
use Rattle.am_api_decisions.proofs.parsed_call.longest_of.Goals as goal

pub loop-label-preserved : goal.loop-label-preserved
loop-label-preserved c =
    let labels : List Label = c.args.labels.now in
    let i : ℕ = c.loop-label.label-index in
    let old : ℕ = c.loop-label.longest in
    let own : ℕ = length c.as_str.result.now in
    let new : ℕ = c.max-longest.result in
    let P : Label → Type 0 = λ l. length l.value ≤ new in
    let is : new ≡ max old own = c.max-longest.ensures in
    let size : own ≡ length c.label-item.result.value = ap length c.as_str.ensures.bytes in
    let here : P c.label-item.result = omega (arith, is, size, le-max_right old own) in (
      All-more P labels i c.label-item.result c.loop-label-test.true
          (λ k d within. omega (arith, c.loop-label.invariant.0 k d within, is, le-max_left old own))
          (subst P c.label-item.is here),
      omega (arith, c.loop-label.invariant.1, is, le-max_left old own),
    )

pub returns-clause-covers : goal.returns-clause-covers
returns-clause-covers c =
    subst (AreWithin c.loop-label.longest) (take_all c.loop-label.label-index c.args.labels.now c.loop-label-test.false) c.loop-label.invariant.0
