-- The map of a replica once it was sent all that it lacks.
use Rattle.std.proofs.Common.{◌≡◌, ℕ, zero, suc, ◌<◌, Bool, true, false, cond, List, [], ◌∷◌, length, get_or, Option, Some, None, refl, sym, ap, ◌∙◌, subst, arith, ltb}
use Rattle.std.specs.Prelude.{All, Contains, filter}
use Rattle.std.specs.declared.cmp.Ordering.{Ordering}
use Rattle.std.specs.declared.cmp.Ordering.TheVariants.{Less}
use Rattle.std.specs.Ordering.{eq_by_cmp}
use Rattle.std.proofs.lemmas.Bool.{lt-ltb}
use Rattle.std.proofs.lemmas.List.Concat.{flat_map-cons}
use Rattle.std.proofs.lemmas.List.Elements.{Contains-append_left, Contains-append_right}
use Rattle.am_version_order.specs.Versions.{Version, is_below, IsLive}
use Rattle.am_version_order.proofs.Ranks.{below_itself, below-updated, tied}
use Rattle.am_merge.specs.Maps.{IsMap, at, replaces, is_above}
use Rattle.am_merge.proofs.Keys.{IsKeyOrder, AreAbove, all_filtered, at-above, at-Contains, same_key}
use Rattle.am_merge.proofs.Puts.{at-member}
use Rattle.am_merge.specs.Views.{HoldsBest}
use Rattle.am_alertmanager.specs.Mending.{AreLive, TieNowhere, after, kept, kept_of, lacked, versions_of}

module _ {K X : Type 0} (seen : X → Version K) (cmp : K → K → Ordering) (keys : IsKeyOrder cmp) where
  -- ---- what a map has at a key once only some are left
  if_passes : (X → Bool) → Option X → Option X
  if_passes test None = None
  if_passes test (Some v) = cond (test v) (Some v) None

  if_passes-cond : (test : X → Bool) (x : X) (b : Bool) (o : Option X) → if_passes test (cond b (Some x) o) ≡ cond b (cond (test x) (Some x) None) (if_passes test o)
  unfolding if_passes
  if_passes-cond test x true o = refl
  if_passes-cond test x false o = refl

  filtered_by : (test : X → Bool) (x : X) (xs : List X) (k : K) (b passes : Bool) → eq_by_cmp cmp (seen x).key k ≡ b → AreAbove seen cmp (seen x).key xs
      → at seen cmp (filter test xs) k ≡ if_passes test (at seen cmp xs k)
      → at seen cmp (cond passes (x ∷ filter test xs) (filter test xs)) k ≡ cond b (cond passes (Some x) None) (if_passes test (at seen cmp xs k))
  filtered_by test x xs k true true e above rest = rw e refl
  filtered_by test x xs k true false e above rest =
      at-above seen cmp keys (filter test xs) k (all_filtered (λ w. cmp k (seen w).key ≡ Less) test xs (subst (λ j. AreAbove seen cmp j xs) (same_key seen cmp keys (seen x).key k e) above))
  filtered_by test x xs k false true e above rest = rw e rest
  filtered_by test x xs k false false e above rest = rest

  at-filter : (test : X → Bool) (xs : List X) (k : K) → IsMap seen cmp xs → at seen cmp (filter test xs) k ≡ if_passes test (at seen cmp xs k)
  unfolding if_passes
  at-filter test [] k map = refl
  at-filter test (x ∷ xs) k map =
      filtered_by test x xs k (eq_by_cmp cmp (seen x).key k) (test x) refl map.0 (at-filter test xs k map.1)
      ∙ sym (if_passes-cond test x (eq_by_cmp cmp (seen x).key k) (at seen cmp xs k))

  -- ---- at one key, where v is what counts there
  module _ (now : ℕ) where
    live_kept : (v : X) → IsLive now (seen v) → kept seen now None v ≡ Some v
    live_kept v live = let t : ltb now (seen v).expires ≡ true = lt-ltb _ _ live in rw t refl

    later_kept : (v w : X) → IsLive now (seen v) → (seen w).updated < (seen v).updated → kept seen now (Some w) v ≡ Some v
    later_kept v w live later =
        let t : ltb now (seen v).expires ≡ true = lt-ltb _ _ live in
        let u : ltb (seen w).updated (seen v).updated ≡ true = lt-ltb _ _ later in
        rw (t, u) refl

    -- of what is below it nothing ties with it
    below_kept : (v w : X) (b : Bool) → is_below (seen w) (seen v) ≡ b → is_below (seen v) (seen w) ≡ false → (seen v).key ≡ (seen w).key → IsLive now (seen v)
        → ((seen v).updated ≡ (seen w).updated → v ≡ w) → kept_of seen now (Some w) (cond b (Some v) None) ≡ Some v
    below_kept v w true less unbeaten key live same =
        let le = below-updated (seen w) (seen v) less in
        let apart : (seen v).updated ≡ (seen w).updated → ⊥ =
        (λ tie. let is : v ≡ w = same tie in
        let itself : is_below (seen w) (seen w) ≡ true = subst (λ x. is_below (seen w) (seen x) ≡ true) is less in
        let never = below_itself (seen w) in cc) in
        later_kept v w live (omega (arith, le, apart))
    below_kept v w false not_less unbeaten key live same =
        let is : v ≡ w = same (ap (λ (x : Version K). x.updated) (tied (seen v) (seen w) key unbeaten not_less)) in
        ap (λ (x : X). Some x) (sym is)

    module _ (set fold held : List X) (held_map : IsMap seen cmp held) (fold_map : IsMap seen cmp fold) (best : HoldsBest seen set fold)
        (untied : TieNowhere seen set) (live : AreLive seen now set) (members : (w : X) → Contains held w → Contains set w) (key : K) where
      at_found : (v : X) (old : Option X) → ((seen v).key ≡ key) × Contains fold v → at seen cmp held key ≡ old
          → kept_of seen now old (cond (is_above seen old v) (Some v) None) ≡ Some v
      at_found v None found is = live_kept v (live v (best.best v found.1).member)
      at_found v (Some w) found is =
          let old = at-Contains seen cmp keys held key w is in
          let one_key : (seen v).key ≡ (seen w).key = found.0 ∙ sym old.0 in
          let counts = best.best v found.1 in
          let among = members w old.1 in
          below_kept v w (is_below (seen w) (seen v)) refl (counts.unbeaten w among (sym one_key)) one_key (live v counts.member)
          (untied v w counts.member among one_key)

      by_found : (found old : Option X) → at seen cmp fold key ≡ found → at seen cmp held key ≡ old
          → kept_of seen now old (if_passes (replaces seen cmp held) found) ≡ found
      unfolding if_passes
      by_found None None none nothing = refl
      by_found None (Some w) none is =
          let old = at-Contains seen cmp keys held key w is in
          let (u, member, own) = best.keys w (members w old.1) in
          let there = at-member seen cmp keys fold u fold_map member in
          let never : at seen cmp fold key ≡ Some u = subst (λ k. at seen cmp fold k ≡ Some u) (own ∙ old.0) there in
          cc
      by_found (Some v) old is was =
          let found = at-Contains seen cmp keys fold key v is in
          let same : at seen cmp held (seen v).key ≡ old = ap (λ k. at seen cmp held k) found.0 ∙ was in
          let test : replaces seen cmp held v ≡ is_above seen old v = ap (λ (o : Option X). is_above seen o v) same in
          ap (λ (b : Bool). kept_of seen now old (cond b (Some v) None)) test ∙ at_found v old found was

      pub one : after seen cmp now held (lacked seen cmp held fold) key ≡ at seen cmp fold key
      one = ap (λ (o : Option X). kept_of seen now (at seen cmp held key) o) (at-filter (replaces seen cmp held) fold key fold_map)
          ∙ by_found (at seen cmp fold key) (at seen cmp held key) refl refl

-- ---- all replicas
module _ {X : Type 0} where
  is_member : (replicas : List (List X)) (k : ℕ) (d : List X) → k < length replicas → (w : X) → Contains (get_or replicas k d) w → Contains (versions_of replicas) w
  is_member [] k d lt w has = absurd (omega (arith, lt))
  is_member (held ∷ others) zero d lt w has = subst (λ (xs : List X). Contains xs w) (sym (flat_map-cons (λ (h : List X). h) held others)) (Contains-append_left held (versions_of others) w has)
  is_member (held ∷ others) (suc k) d lt w has = subst (λ (xs : List X). Contains xs w) (sym (flat_map-cons (λ (h : List X). h) held others)) (Contains-append_right held (versions_of others) w (is_member others k d (omega (arith, lt)) w has))

module _ {K X : Type 0} (seen : X → Version K) (cmp : K → K → Ordering) (keys : IsKeyOrder cmp) where
  pub all_mended : (now : ℕ) (replicas : List (List X)) (fold : List X) → All (IsMap seen cmp) replicas → IsMap seen cmp fold → HoldsBest seen (versions_of replicas) fold
      → TieNowhere seen (versions_of replicas) → AreLive seen now (versions_of replicas)
      → All (λ held. (key : K) → after seen cmp now held (lacked seen cmp held fold) key ≡ at seen cmp fold key) replicas
  all_mended now replicas fold maps fold_map best untied live = λ k d lt key.
      one seen cmp keys now (versions_of replicas) fold (get_or replicas k d) (maps k d lt) fold_map best untied live (is_member replicas k d lt) key
