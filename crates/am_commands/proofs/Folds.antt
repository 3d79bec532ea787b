-- Sources that are folded, one more.
use Rattle.std.proofs.Common.{◌≡◌, List, [], ◌∷◌, ◌++◌, Option, None, refl, sym, ap, ◌∙◌}
use Rattle.std.specs.Prelude.{fold}
use Rattle.std.specs.declared.cmp.Ordering.{Ordering}
use Rattle.am_version_order.specs.Versions.{Version}
use Rattle.am_merge.specs.Maps.{IsMap, IsJoin, at, greater_of}
use Rattle.am_report.specs.Sources.{Source}
use Rattle.am_commands.specs.Folding.{IsFoldOf}

fold_more : {A B : Type 0} (f : B → A → B) (b : B) (xs : List A) (x : A) → fold f b (xs ++ x ∷ []) ≡ f (fold f b xs) x
fold_more f b [] x = refl
fold_more f b (y ∷ xs) x = fold_more f (f b y) xs x

module _ {K X : Type 0} (seen : X → Version K) (cmp : K → K → Ordering) where
  pub none_folded : IsFoldOf seen cmp [] []
  none_folded = record { order = tt; greatest = λ key. refl }

  pub folded_more : (sources : List (Source X)) (held joined : List X) (source : Source X) → IsFoldOf seen cmp sources held
      → IsMap seen cmp joined → IsJoin seen cmp held source.held joined → IsFoldOf seen cmp (sources ++ source ∷ []) joined
  folded_more sources held joined source before order join = record {
    order = order;
    greatest = λ key.
        join key
        ∙ ap (λ (o : Option X). greater_of seen o (at seen cmp source.held key)) (before.greatest key)
        ∙ sym (fold_more (λ (best : Option X) (s : Source X). greater_of seen best (at seen cmp s.held key)) None sources source);
  }
