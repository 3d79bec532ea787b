use Rattle.std.proofs.Common.{◌≡◌, Option, None, Some, true, option_map, refl, sym, ◌∙◌}
use Rattle.std.specs.Option.{is_some}
use Rattle.am_api_decisions.proofs.notice.read_decided_at.Goals as goal

-- what is found is something
found : {A B : Type 0} (f : A → B) (here : Option A) (there : Option B) → option_map f here ≡ there → is_some here ≡ true → there ≡ None → ⊥
found f (Some x) there same some none = let never : Some (f x) ≡ None = same ∙ none in cc
found f None there same some none = cc

pub returns-in-None-clause-wrong : goal.returns-in-None-clause-wrong
returns-in-None-clause-wrong c =
    let some = rw c.if-is_none.false at c.is_none.ensures in (
      refl,
      record {
        there = λ none. found _ c.get.result _ c.get.ensures some none;
        none = λ moment has. (let never : None ≡ Some moment = sym c.in-None.is ∙ c.moment_in.ensures.only moment has in cc);
      },
    )
