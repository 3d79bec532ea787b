-- The view after a calm past, and its consequences for what is held, changed and collected.
use Rattle.std.proofs.Common.{◌≡◌, ◌⊎◌, inl, inr, ℕ, ◌<◌, ◌≤◌, Bool, true, false, ◌&&◌, cond, List, [], ◌∷◌, ◌++◌, Option, Some, None, refl, sym, ap, ◌∙◌, subst, arith, map, append_assoc, append-nil}
use Rattle.std.specs.Prelude.{Contains}
use Rattle.std.specs.declared.cmp.Ordering.{Ordering}
use Rattle.std.proofs.lemmas.Bool.{cases_lt, ltb-true, and_parts, false≢true}
use Rattle.std.proofs.lemmas.List.Elements.{Contains-append_left, Contains-append_cases, Contains-push_cases}
use Rattle.am_version_order.specs.Versions.{Version, is_below, is_live}
use Rattle.am_merge.specs.Maps.{greater_of, is_above, if_live, at}
use Rattle.am_merge.specs.Views.{IsViewAt}
use Rattle.am_merge.proofs.Keys.{IsKeyOrder, eq_itself}
use Rattle.am_collect.specs.Events.{MapEvent, Events, taken, collections, collected, last_moment, after}
use Rattle.am_collect.specs.Events.MapEvent.{Delivered, Collected, Passed}
use Rattle.am_collect.specs.Calm.{IsCalm, IsCalmAt}
use Rattle.am_collect.proofs.Greatest.{live_kept, second_taken}
use Rattle.am_collect.proofs.Histories.{calm_shows, last_moment-append}
use Rattle.am_runs.specs.Members.{map_of}
use Rattle.am_runs.specs.Runs.{changed}
use Rattle.am_runs.proofs.Cuts.{carried, each_front}
use Rattle.am_runs.proofs.Pasts.{map_of-append, taken-append, last-one, collections-push}

module _ {X : Type 0} where
  pub empty : (x : X) → ¬ Contains [] x
  empty x c = let few = c.1 in omega arith

  pub one_same : (w v : X) → Contains (w ∷ []) v → w ≡ v
  one_same w v c = elim (Contains-push_cases [] w v c) [ inl none ↦ absurd (empty v none) | inr is ↦ is ]

module _ {K X : Type 0} (seen : X → Version K) where
  -- no collection of a calm past is after its last moment
  pub collected_before : (past : Events X) → IsCalm seen [] 0 past → (moment : ℕ) → Contains (collections past) moment → moment ≤ last_moment 0 past
  collected_before past calm =
      let Q : Events X → Type 0 = λ events. (moment : ℕ) → Contains (collections events) moment → moment ≤ last_moment 0 events in
      carried Q past [] past [] (append-nil past) next (λ moment c. absurd (empty moment c)) where
        next_one : (before : Events X) (e : MapEvent X) (now : ℕ) → last_moment 0 before ≤ now → ((moment : ℕ) → Contains (collections before) moment → moment ≤ last_moment 0 before) → (moment : ℕ) → Contains (collections before ++ collected e now) moment → moment ≤ now
        next_one before (Delivered v) now forward old moment c = let bound : moment ≤ last_moment 0 before = old moment (subst (λ ms. Contains ms moment) (append-nil (collections before)) c) in omega arith
        next_one before Collected now forward old moment c = elim (Contains-push_cases (collections before) now moment c) [ inl there ↦ (let bound : moment ≤ last_moment 0 before = old moment there in omega arith) | inr here ↦ omega arith ]
        next_one before Passed now forward old moment c = let bound : moment ≤ last_moment 0 before = old moment (subst (λ ms. Contains ms moment) (append-nil (collections before)) c) in omega arith

        next : (before : Events X) (e : MapEvent X × ℕ) (rest : Events X) → before ++ e ∷ rest ≡ past → ((moment : ℕ) → Contains (collections before) moment → moment ≤ last_moment 0 before) → (moment : ℕ) → Contains (collections (before ++ e ∷ [])) moment → moment ≤ last_moment 0 (before ++ e ∷ [])
        next before e rest is old moment c =
            subst (λ last. moment ≤ last) (sym (last_moment-append 0 before (e ∷ [])))
            (next_one before e.0 e.1 (calm before e rest is).forward old moment (subst (λ ms. Contains ms moment) (collections-push before e) c))

  module _ (cmp : K → K → Ordering) (keys : IsKeyOrder cmp) where
    -- a calm past shows the bare set
    pub calm_view : (past : Events X) (now : ℕ) (key : K) → IsCalm seen [] 0 past → last_moment 0 past ≤ now → IsViewAt seen (taken [] past) now key (if_live seen now (map_of seen cmp past key))
    calm_view past now key calm forward = calm_shows seen cmp keys key [] 0 past now tt calm forward

    -- what is held, live, is not less than anything taken
    live_best : (past : Events X) (now : ℕ) (key : K) (v h : X) → IsCalm seen [] 0 past → last_moment 0 past ≤ now → map_of seen cmp past key ≡ Some v → now < (seen v).expires → Contains (taken [] past) h → (seen h).key ≡ (seen v).key → is_below (seen v) (seen h) ≡ false
    live_best past now key v h calm forward held live has same =
        let shown : IsViewAt seen (taken [] past) now key (Some v) = subst (IsViewAt seen (taken [] past) now key) (ap (if_live seen now) held ∙ live_kept seen now v live) (calm_view past now key calm forward) in
        shown.1.best.unbeaten h has same

    -- so what is held and less than something taken isn't live
    pub held_beaten : (past : Events X) (v h : X) → IsCalm seen [] 0 past → map_of seen cmp past (seen v).key ≡ Some v → Contains (taken [] past) h → (seen h).key ≡ (seen v).key → is_below (seen v) (seen h) ≡ true → (seen v).expires ≤ last_moment 0 past
    held_beaten past v h calm held has same below = by (cases_lt (last_moment 0 past) (seen v).expires) where
      by : (last_moment 0 past < (seen v).expires) ⊎ ((seen v).expires ≤ last_moment 0 past) → (seen v).expires ≤ last_moment 0 past
      by (inl live) = absurd (false≢true (sym (live_best past (last_moment 0 past) (seen v).key v h calm (omega arith) held live has same) ∙ below))
      by (inr dead) = dead

    own : (v : X) → at seen cmp (v ∷ []) (seen v).key ≡ Some v
    own v = rw (eq_itself seen cmp keys (seen v).key) refl

    -- what is above what is held comes to be held
    comes_in : (held : Option X) (v : X) → is_above seen held v ≡ true → greater_of seen held (Some v) ≡ Some v
    comes_in None v above = refl
    comes_in (Some w) v above = second_taken seen w v above

    after_one : (past : Events X) (v : X) (now : ℕ) → map_of seen cmp (past ++ (Delivered v, now) ∷ []) ≡ after seen cmp (map_of seen cmp past) (Delivered v) now
    after_one past v now = map_of-append seen cmp past ((Delivered v, now) ∷ [])

    -- what a calm taking changed is not less than anything taken before
    changed_best : (past : Events X) (now : ℕ) (v h : X) → IsCalm seen [] 0 (past ++ (Delivered v, now) ∷ []) → is_live now (seen v) ≡ true → is_above seen (map_of seen cmp past (seen v).key) v ≡ true → Contains (taken [] past) h → (seen h).key ≡ (seen v).key → is_below (seen v) (seen h) ≡ false
    changed_best past now v h calm live above has same =
        let held : map_of seen cmp (past ++ (Delivered v, now) ∷ []) (seen v).key ≡ Some v =
        ap (λ m. m (seen v).key) (after_one past v now) ∙ (ap (greater_of seen (map_of seen cmp past (seen v).key)) (own v) ∙ comes_in (map_of seen cmp past (seen v).key) v above) in
        let last = last-one past (Delivered v) now in
        live_best (past ++ (Delivered v, now) ∷ []) now (seen v).key v h calm (omega (arith, last)) held (ltb-true now (seen v).expires live)
        (subst (λ set. Contains set h) (sym (taken-append past ((Delivered v, now) ∷ []))) (Contains-append_left (taken [] past) (v ∷ []) h has)) same

    pub changed_unbeaten : (past : Events X) (now : ℕ) (vs : List X) (v h : X) → IsCalm seen [] 0 (past ++ map (λ w. (Delivered w, now)) vs) → Contains (changed seen cmp now (map_of seen cmp past) vs) v → Contains (taken [] past) h → (seen h).key ≡ (seen v).key → is_below (seen v) (seen h) ≡ true → ⊥
    changed_unbeaten past now [] v h calm c has same below = empty v c
    changed_unbeaten past now (w ∷ ws) v h calm c has same below =
        let joined : (past ++ (Delivered w, now) ∷ []) ++ map (λ u. (Delivered u, now)) ws ≡ past ++ (Delivered w, now) ∷ map (λ u. (Delivered u, now)) ws = append_assoc past ((Delivered w, now) ∷ []) (map (λ u. (Delivered u, now)) ws) in
        let whole : IsCalm seen [] 0 ((past ++ (Delivered w, now) ∷ []) ++ map (λ u. (Delivered u, now)) ws) = subst (IsCalm seen [] 0) (sym joined) calm in
        let first : IsCalm seen [] 0 (past ++ (Delivered w, now) ∷ []) = each_front (λ before e. IsCalmAt seen [] 0 before e.0 e.1) (past ++ (Delivered w, now) ∷ []) (map (λ u. (Delivered u, now)) ws) whole in
        by (is_live now (seen w) && is_above seen (map_of seen cmp past (seen w).key) w) refl first
        (λ later. changed_unbeaten (past ++ (Delivered w, now) ∷ []) now ws v h whole (subst (λ m. Contains (changed seen cmp now m ws) v) (sym (after_one past w now)) later)
        (subst (λ set. Contains set h) (sym (taken-append past ((Delivered w, now) ∷ []))) (Contains-append_left (taken [] past) (w ∷ []) h has)) same below) c where
          by : (b : Bool) → (is_live now (seen w) && is_above seen (map_of seen cmp past (seen w).key) w) ≡ b → IsCalm seen [] 0 (past ++ (Delivered w, now) ∷ []) → (Contains (changed seen cmp now (after seen cmp (map_of seen cmp past) (Delivered w) now) ws) v → ⊥) → Contains (cond b (w ∷ []) [] ++ changed seen cmp now (after seen cmp (map_of seen cmp past) (Delivered w) now) ws) v → ⊥
          by true test first rest c = elim (Contains-append_cases (w ∷ []) (changed seen cmp now (after seen cmp (map_of seen cmp past) (Delivered w) now) ws) v c) [
            | inl here ↦ (
                let is : w ≡ v = one_same w v here in
                let both = and_parts (is_live now (seen w)) (is_above seen (map_of seen cmp past (seen w).key) w) test in
                let kept = changed_best past now w h first both.0 both.1 has (same ∙ ap (λ y. (seen y).key) (sym is)) in
                false≢true (sym kept ∙ subst (λ y. is_below (seen y) (seen h) ≡ true) (sym is) below)
                )
            | inr there ↦ rest there
          ]
          by false test first rest c = rest c
