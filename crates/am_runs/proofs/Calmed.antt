-- A version comes in time or not by the greatest taken of its key and the last collection.
use Rattle.std.proofs.Common.{◌≡◌, ◌≢◌, ◌↔◌, inl, inr, ℕ, ◌<◌, ◌≤◌, Bool, true, false, not, ◌&&◌, cond, List, [], ◌∷◌, ◌++◌, Option, Some, None, refl, sym, ap, ◌∙◌, subst, arith, map, append_assoc, append-nil, ltb}
use Rattle.std.specs.Prelude.{Contains, All, MatchOption}
use Rattle.std.specs.declared.cmp.Ordering.{Ordering}
use Rattle.std.specs.Ordering.{eq_by_cmp}
use Rattle.std.proofs.lemmas.List.Elements.{Contains-append_left, Contains-push, Contains-push_cases}
use Rattle.am_version_order.specs.Versions.{Version, is_below}
use Rattle.am_version_order.proofs.Ranks.{below_itself, below_trans, tied}
use Rattle.am_merge.specs.Maps.{greater_of, at}
use Rattle.am_merge.specs.Views.{IsBest}
use Rattle.am_merge.proofs.Keys.{IsKeyOrder, eq_itself, same_key}
use Rattle.am_collect.proofs.Greatest.{second_taken, first_kept}
use Rattle.am_collect.specs.Events.{MapEvent, Events, taken, collections, last_moment}
use Rattle.am_collect.specs.Events.MapEvent.{Delivered, Passed}
use Rattle.am_collect.specs.Calm.{IsCalm, IsCalmAt, IsInTime}
use Rattle.std.proofs.lemmas.Bool.{lt-ltb, ltb-true, not-true, and_parts, and_from, false≢true}
use Rattle.am_runs.specs.Steps.{EachStep}
use Rattle.am_runs.specs.Members.{passes}
use Rattle.am_runs.specs.Tests.{top_among, has_reached, in_time}
use Rattle.am_runs.proofs.Cuts.{each_append, each_back, each_cons, each_map, each_rest, each_unmap}
use Rattle.am_runs.proofs.Pasts.{taken-passes, collections-passes, last-passes}

module _ {K X : Type 0} (seen : X → Version K) where
  -- the greatest version of a key in a set, or none
  abbrev pub IsTop : List X → K → Option X → Type 0
  IsTop set key top = MatchOption top ((v : X) → Contains set v → (seen v).key ≢ key) (λ g. IsBest seen set g × ((seen g).key ≡ key))

  below_less : (g v w : X) → is_below (seen g) (seen v) ≡ true → is_below (seen g) (seen w) ≡ false → is_below (seen v) (seen w) ≡ false
  below_less g v w up not = by (is_below (seen v) (seen w)) refl where
    by : (b : Bool) → is_below (seen v) (seen w) ≡ b → is_below (seen v) (seen w) ≡ false
    by true e = let further = below_trans (seen g) (seen v) (seen w) up e in absurd cc
    by false e = e

  module _ (cmp : K → K → Ordering) (keys : IsKeyOrder cmp) where
    other_key : (v : X) (key : K) → eq_by_cmp cmp (seen v).key key ≡ false → (seen v).key ≢ key
    other_key v key e same = let is : eq_by_cmp cmp key key ≡ false = subst (λ k. eq_by_cmp cmp k key ≡ false) same e in let one = eq_itself seen cmp keys key in absurd cc

    -- one version more
    top_other : (set : List X) (key : K) (top : Option X) (v : X) → (seen v).key ≢ key → IsTop set key top → IsTop (set ++ v ∷ []) key top
    top_other set key None v other none = λ w c same. elim (Contains-push_cases set v w c) [ inl old ↦ none w old same | inr new ↦ other (ap (λ y. (seen y).key) new ∙ same) ]
    top_other set key (Some g) v other found = (
      record {
        member = Contains-append_left set (v ∷ []) g found.0.member;
        unbeaten = λ w c same. elim (Contains-push_cases set v w c) [ inl old ↦ found.0.unbeaten w old same | inr new ↦ absurd (other (ap (λ y. (seen y).key) new ∙ (same ∙ found.1))) ];
      },
      found.1,
    )

    top_own : (set : List X) (key : K) (top : Option X) (v : X) → (seen v).key ≡ key → IsTop set key top → IsTop (set ++ v ∷ []) key (greater_of seen top (Some v))
    top_own set key None v own none = (
      record {
        member = Contains-push set v;
        unbeaten = λ w c same. elim (Contains-push_cases set v w c) [ inl old ↦ absurd (none w old (same ∙ own)) | inr new ↦ subst (λ y. is_below (seen v) (seen y) ≡ false) new (below_itself (seen v)) ];
      },
      own,
    )
    top_own set key (Some g) v own found = by (is_below (seen g) (seen v)) refl where
      by : (b : Bool) → is_below (seen g) (seen v) ≡ b → IsTop (set ++ v ∷ []) key (greater_of seen (Some g) (Some v))
      by true up = subst (IsTop (set ++ v ∷ []) key) (sym (second_taken seen g v up)) (
        record {
          member = Contains-push set v;
          unbeaten = λ w c same. elim (Contains-push_cases set v w c) [ inl old ↦ below_less g v w up (found.0.unbeaten w old (same ∙ (own ∙ sym found.1))) | inr new ↦ subst (λ y. is_below (seen v) (seen y) ≡ false) new (below_itself (seen v)) ];
        },
        own,
      )
      by false kept = subst (IsTop (set ++ v ∷ []) key) (sym (first_kept seen g v kept)) (
        record {
          member = Contains-append_left set (v ∷ []) g found.0.member;
          unbeaten = λ w c same. elim (Contains-push_cases set v w c) [ inl old ↦ found.0.unbeaten w old same | inr new ↦ subst (λ y. is_below (seen g) (seen y) ≡ false) new kept ];
        },
        found.1,
      )

    none_more : (top : Option X) → greater_of seen top None ≡ top
    none_more None = refl
    none_more (Some g) = refl

    top_push : (set : List X) (key : K) (top : Option X) (v : X) → IsTop set key top → IsTop (set ++ v ∷ []) key (greater_of seen top (at seen cmp (v ∷ []) key))
    top_push set key top v is = by (eq_by_cmp cmp (seen v).key key) refl where
      by : (b : Bool) → eq_by_cmp cmp (seen v).key key ≡ b → IsTop (set ++ v ∷ []) key (greater_of seen top (cond b (Some v) None))
      by true e = top_own set key top v (same_key seen cmp keys (seen v).key key e) is
      by false e = subst (IsTop (set ++ v ∷ []) key) (sym (none_more top)) (top_other set key top v (other_key v key e) is)

    pub top_all : (set : List X) (key : K) (top : Option X) (vs : List X) → IsTop set key top → IsTop (set ++ vs) key (top_among seen cmp key top vs)
    top_all set key top [] is = subst (λ s. IsTop s key top) (sym (append-nil set)) is
    top_all set key top (v ∷ vs) is =
        subst (λ s. IsTop s key (top_among seen cmp key (greater_of seen top (at seen cmp (v ∷ []) key)) vs)) (append_assoc set (v ∷ []) vs)
        (top_all (set ++ v ∷ []) key (greater_of seen top (at seen cmp (v ∷ []) key)) vs (top_push set key top v is))

-- a moment is after all collections where the last one has not reached it
abbrev pub IsLast : Option ℕ → List ℕ → Type 0
IsLast last collections = (moment : ℕ) → (has_reached last moment ≡ false) ↔ All (λ m. m < moment) collections

module _ {K X : Type 0} (seen : X → Version K) where
  -- the test answers as the definition says
  pub to_in_time : (set : List X) (collections : List ℕ) (now : ℕ) (v : X) (top : Option X) (last : Option ℕ) → IsTop seen set (seen v).key top → IsLast last collections → in_time seen top last now v ≡ true → IsInTime seen set collections (Delivered v) now
  to_in_time set collections now v None last none ends test live g over = absurd (none g over.best.member over.same_key)
  to_in_time set collections now v (Some g) last found ends test live h over =
      let same : seen h ≡ seen g = tied (seen h) (seen g) (over.same_key ∙ sym found.1) (over.best.unbeaten g found.0.member (found.1 ∙ sym over.same_key)) (found.0.unbeaten h over.best.member (over.same_key ∙ sym found.1)) in
      let below : is_below (seen v) (seen g) ≡ true = subst (λ s. is_below (seen v) s ≡ true) same over.above in
      by (has_reached last (seen g).expires) refl same below where
        by : (b : Bool) → has_reached last (seen g).expires ≡ b → seen h ≡ seen g → is_below (seen v) (seen g) ≡ true → All (λ m. m < (seen h).expires) collections
        by true r same below = absurd (false≢true (sym (not-true (ltb now (seen v).expires && (is_below (seen v) (seen g) && has_reached last (seen g).expires)) test) ∙ and_from (ltb now (seen v).expires) (is_below (seen v) (seen g) && has_reached last (seen g).expires) (lt-ltb now (seen v).expires live) (and_from (is_below (seen v) (seen g)) (has_reached last (seen g).expires) below r)))
        by false r same below = subst (λ s. All (λ m. m < s.expires) collections) (sym same) ((ends (seen g).expires).0 r)

  pub from_in_time : (set : List X) (collections : List ℕ) (now : ℕ) (v : X) (top : Option X) (last : Option ℕ) → IsTop seen set (seen v).key top → IsLast last collections → IsInTime seen set collections (Delivered v) now → in_time seen top last now v ≡ true
  from_in_time set collections now v None last none ends calm = refl
  from_in_time set collections now v (Some g) last found ends calm = by (ltb now (seen v).expires && (is_below (seen v) (seen g) && has_reached last (seen g).expires)) refl where
    by : (b : Bool) → (ltb now (seen v).expires && (is_below (seen v) (seen g) && has_reached last (seen g).expires)) ≡ b → not (ltb now (seen v).expires && (is_below (seen v) (seen g) && has_reached last (seen g).expires)) ≡ true
    by true e =
        let p = and_parts (ltb now (seen v).expires) (is_below (seen v) (seen g) && has_reached last (seen g).expires) e in
        let q = and_parts (is_below (seen v) (seen g)) (has_reached last (seen g).expires) p.1 in
        let before = calm (ltb-true now (seen v).expires p.0) g (record { best = found.0; same_key = found.1; above = q.0 }) in
        absurd (false≢true (sym ((ends (seen g).expires).1 before) ∙ q.1))
    by false e = ap not e

  -- events one after the other
  abbrev Fits : Events X → ℕ → List X → X → Type 0
  Fits past now done v = IsInTime seen (taken [] past ++ done) (collections past) (Delivered v) now

  to_event : (past : Events X) (now : ℕ) (done : List X) (v : X) → Fits past now done v → IsCalmAt seen [] 0 (past ++ passes now done) (Delivered v) now
  to_event past now done v fits = record {
    forward = let last = last-passes past now done in omega (arith, last);
    in_time = subst (λ set. IsInTime seen set (collections (past ++ passes now done)) (Delivered v) now) (sym (taken-passes past now done)) (subst (λ moments. IsInTime seen (taken [] past ++ done) moments (Delivered v) now) (sym (collections-passes past now done)) fits);
  }

  from_event : (past : Events X) (now : ℕ) (done : List X) (v : X) → IsCalmAt seen [] 0 (past ++ passes now done) (Delivered v) now → Fits past now done v
  from_event past now done v calm = subst (λ set. IsInTime seen set (collections past) (Delivered v) now) (taken-passes past now done) (subst (λ moments. IsInTime seen (taken [] (past ++ passes now done)) moments (Delivered v) now) (collections-passes past now done) calm.in_time)

  abbrev Calmly : Events X → MapEvent X × ℕ → Type 0
  Calmly before e = IsCalmAt seen [] 0 before e.0 e.1

  -- an event that delivers versions is calm where each comes in time
  pub calm_passes : (past : Events X) (now : ℕ) (vs : List X) → IsCalm seen [] 0 past → last_moment 0 past ≤ now → EachStep vs (λ done v. IsInTime seen (taken [] past ++ done) (collections past) (Delivered v) now) → IsCalm seen [] 0 (past ++ passes now vs)
  calm_passes past now vs calm forward each =
      let P : Events X → MapEvent X × ℕ → Type 0 = λ before e. IsCalmAt seen [] 0 before e.0 e.1 in
      each_append P past (passes now vs) calm
      (each_cons (λ before. P (past ++ before)) (Passed, now) (map (λ v. (Delivered v, now)) vs)
      (record { forward = subst (λ before. last_moment 0 before ≤ now) (sym (append-nil past)) forward; in_time = tt })
      (each_map (λ v. (Delivered v, now)) (λ before. P (past ++ (Passed, now) ∷ before)) vs (λ done v rest e. to_event past now done v (each done v rest e))))

  pub passes_calm : (past : Events X) (now : ℕ) (vs : List X) → IsCalm seen [] 0 (past ++ passes now vs) → EachStep vs (λ done v. IsInTime seen (taken [] past ++ done) (collections past) (Delivered v) now)
  passes_calm past now vs calm =
      let P : Events X → MapEvent X × ℕ → Type 0 = λ before e. IsCalmAt seen [] 0 before e.0 e.1 in
      let back = each_unmap (λ v. (Delivered v, now)) (λ before. P (past ++ (Passed, now) ∷ before)) vs (each_rest (λ before. P (past ++ before)) (Passed, now) (map (λ v. (Delivered v, now)) vs) (each_back P past (passes now vs) calm)) in
      λ done v rest e. from_event past now done v (back done v rest e)
