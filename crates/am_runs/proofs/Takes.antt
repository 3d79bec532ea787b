-- The versions of an event that a member takes, one after the other, and whether each comes in time.
use Rattle.std.proofs.Common.{◌≡◌, ◌↔◌, ℕ, ◌+◌, ◌<◌, Bool, true, ◌&&◌, List, [], ◌∷◌, ◌++◌, Option, Result, Ok, Err, refl, sym, ap, ◌∙◌, subst, length, take, get_or}
use Rattle.std.specs.Prelude.{IsTrue, IfOk, OnOk}
use Rattle.std.specs.declared.cmp.Ordering.{Ordering}
use Rattle.std.proofs.lemmas.Bool.{and_parts, and_from}
use Rattle.std.proofs.lemmas.List.{take_more}
use Rattle.am_version_order.specs.Versions.{Version}
use Rattle.am_merge.specs.Maps.{IsJoin, at, greater_of}
use Rattle.am_runs.specs.declared.member_index.MemberIndex.{MemberIndex}
use Rattle.am_runs.specs.declared.step.DeliverySource.{DeliverySource}
use Rattle.am_runs.specs.MemberIndexes.{IsJudged}
use Rattle.am_runs.specs.Steps.{EachStep}
use Rattle.am_runs.specs.Steps.RunStep.{Took}
use Rattle.am_runs.specs.Tests.{top_among, in_time}
use Rattle.am_runs.proofs.Cuts.{each_front, each_last, each_push}

module _ {K X : Type 0} (seen : X → Version K) (cmp : K → K → Ordering) where
  pub top_among-push : (key : K) (top : Option X) (vs : List X) (v : X) → top_among seen cmp key top (vs ++ v ∷ []) ≡ greater_of seen (top_among seen cmp key top vs) (at seen cmp (v ∷ []) key)
  top_among-push key top [] v = refl
  top_among-push key top (w ∷ vs) v = top_among-push key (greater_of seen top (at seen cmp (w ∷ []) key)) vs v

  -- one more version is taken
  pub taken_more : (old mid new : List X) (versions : List X) (n : ℕ) (v : X) → n < length versions → v ≡ get_or versions n v → IsJoin seen cmp mid (v ∷ []) new
      → ((key : K) → at seen cmp mid key ≡ top_among seen cmp key (at seen cmp old key) (take n versions))
      → (key : K) → at seen cmp new key ≡ top_among seen cmp key (at seen cmp old key) (take (n + 1) versions)
  taken_more old mid new versions n v within is joined so_far key =
      let more : take (n + 1) versions ≡ take n versions ++ v ∷ [] = take_more versions n v within ∙ ap (λ y. take n versions ++ y ∷ []) (sym is) in
      joined key ∙ ap (λ top. greater_of seen top (at seen cmp (v ∷ []) key)) (so_far key) ∙ sym (top_among-push key (at seen cmp old key) (take n versions) v)
      ∙ ap (top_among seen cmp key (at seen cmp old key)) (sym more)

  -- and each one so far came in time
  pub calm_more : (old mid : List X) (versions : List X) (n : ℕ) (v : X) (end : Option ℕ) (moment : ℕ) (calm came : Bool) → n < length versions → v ≡ get_or versions n v
      → came ≡ in_time seen (at seen cmp mid (seen v).key) end moment v
      → ((key : K) → at seen cmp mid key ≡ top_among seen cmp key (at seen cmp old key) (take n versions))
      → (IsTrue calm ↔ EachStep (take n versions) (λ done w. in_time seen (top_among seen cmp (seen w).key (at seen cmp old (seen w).key) done) end moment w ≡ true))
      → IsTrue (calm && came) ↔ EachStep (take (n + 1) versions) (λ done w. in_time seen (top_among seen cmp (seen w).key (at seen cmp old (seen w).key) done) end moment w ≡ true)
  calm_more old mid versions n v end moment calm came within is told tops so_far =
      let P : List X → X → Type 0 = λ done w. in_time seen (top_among seen cmp (seen w).key (at seen cmp old (seen w).key) done) end moment w ≡ true in
      let more : take (n + 1) versions ≡ take n versions ++ v ∷ [] = take_more versions n v within ∙ ap (λ y. take n versions ++ y ∷ []) (sym is) in
      let here : came ≡ in_time seen (top_among seen cmp (seen v).key (at seen cmp old (seen v).key) (take n versions)) end moment v = told ∙ ap (λ top. in_time seen top end moment v) (tops (seen v).key) in
      subst (λ vs. IsTrue (calm && came) ↔ EachStep vs P) (sym more) (
        (λ t. (let both = and_parts calm came t in each_push P (take n versions) v (so_far.0 both.0) (sym here ∙ both.1))),
        λ each. and_from calm came (so_far.1 (each_front P (take n versions) (v ∷ []) each)) (here ∙ each_last P (take n versions) v each),
      )

  -- an event of a member
  pub judged_took : (index : MemberIndex X K) (taken : List X) (place now : ℕ) (source : DeliverySource) (versions : List X) (frames : List (List X)) (lent : List X) → lent ≡ versions → {E : Type 0} → (result : Result Bool E)
      → IfOk result (λ calm. IsTrue calm ↔ EachStep lent (λ done v. in_time seen (top_among seen cmp (seen v).key (at seen cmp index.taken (seen v).key) done) index.lasts.last now v ≡ true))
      → OnOk result ((key : K) → at seen cmp taken key ≡ top_among seen cmp key (at seen cmp index.taken key) lent)
      → IfOk result (IsJudged seen cmp index (record { runs = index.runs; acted = index.acted; lasts = index.lasts; fault = index.fault; taken = taken; saved = index.saved }) (Took place now source versions frames))
  judged_took index taken place now source versions frames lent same (Ok calm) told tops = record {
    calm = subst (λ vs. IsTrue calm ↔ EachStep vs (λ done v. in_time seen (top_among seen cmp (seen v).key (at seen cmp index.taken (seen v).key) done) index.lasts.last now v ≡ true)) same told;
    tops = λ key. ap (λ (top : Option X). record { top = top; saved = at seen cmp index.saved key }) (tops key ∙ ap (top_among seen cmp key (at seen cmp index.taken key)) same);
    runs = refl;
    acted = refl;
    lasts = refl;
    fault = refl;
  }
  judged_took index taken place now source versions frames lent same (Err e) told tops = tt
