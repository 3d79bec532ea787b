-- After a settle, everybody holds the join of all maps.
use Rattle.std.proofs.Common.{◌≡◌, ◌⊎◌, inl, inr, ℕ, ◌<◌, ◌≤◌, zero, suc, Bool, true, false, cond, List, [], ◌∷◌, ◌++◌, Option, Some, None, refl, sym, ap, ◌∙◌, subst, arith, map}
use Rattle.std.specs.Prelude.{IfSome}
use Rattle.std.specs.declared.cmp.Ordering.{Ordering}
use Rattle.std.specs.Ordering.{eq_by_cmp}
use Rattle.std.proofs.lemmas.Bool.{cases_lt, false≢true}
use Rattle.am_version_order.specs.Versions.{Version, is_below}
use Rattle.am_version_order.proofs.Ranks.{below_itself, below_trans, tied}
use Rattle.am_merge.specs.Maps.{greater_of, at, IsMap}
use Rattle.am_merge.proofs.Keys.{IsKeyOrder, same_key, at-above}
use Rattle.am_collect.proofs.Greatest.{second_taken, first_kept}
use Rattle.am_collect.specs.Events.{Events, after, after_all}
use Rattle.am_collect.specs.Events.MapEvent.{Delivered}
use Rattle.am_runs.specs.Members.{passes, map_of}
use Rattle.am_runs.specs.Settles.{join_of}
use Rattle.am_runs.proofs.Pasts.{map_of-append}

module _ {K X : Type 0} (seen : X → Version K) where
  none_more : (o : Option X) → greater_of seen o None ≡ o
  none_more None = refl
  none_more (Some g) = refl

  module _ (cmp : K → K → Ordering) (keys : IsKeyOrder cmp) where
    -- taking the versions of a map one after the other
    taken_one : (held : Option X) (v : X) (vs : List X) (key : K) (b : Bool) → eq_by_cmp cmp (seen v).key key ≡ b → IsMap seen cmp (v ∷ vs) → greater_of seen (greater_of seen held (cond b (Some v) None)) (at seen cmp vs key) ≡ greater_of seen held (cond b (Some v) (at seen cmp vs key))
    taken_one held v vs key true e map =
        let same : (seen v).key ≡ key = same_key seen cmp keys (seen v).key key e in
        let none : at seen cmp vs key ≡ None = subst (λ k. at seen cmp vs k ≡ None) same (at-above seen cmp keys vs (seen v).key map.0) in
        ap (greater_of seen (greater_of seen held (Some v))) none ∙ none_more (greater_of seen held (Some v))
    taken_one held v vs key false e map = ap (λ o. greater_of seen o (at seen cmp vs key)) (none_more held)

    taken_all : (held : K → Option X) (now : ℕ) (vs : List X) (key : K) → IsMap seen cmp vs → after_all seen cmp held (map (λ v. (Delivered v, now)) vs) key ≡ greater_of seen (held key) (at seen cmp vs key)
    taken_all held now [] key is = sym (none_more (held key))
    taken_all held now (v ∷ vs) key is = taken_all (after seen cmp held (Delivered v) now) now vs key is.1 ∙ taken_one (held key) v vs key (eq_by_cmp cmp (seen v).key key) refl is

    pub map_joined : (past : Events X) (now : ℕ) (vs : List X) (key : K) → IsMap seen cmp vs → map_of seen cmp (past ++ passes now vs) key ≡ greater_of seen (map_of seen cmp past key) (at seen cmp vs key)
    map_joined past now vs key is = ap (λ m. m key) (map_of-append seen cmp past (passes now vs)) ∙ taken_all (map_of seen cmp past) now vs key is

  -- the join of maps has at a key one of theirs, and none of theirs is greater
  pub record IsOver (found : Option X) (v : X) : Type 0 where
    pub top : X
    pub is : found ≡ Some top
    pub past : is_below (seen top) (seen v) ≡ false

  not_below : (u w v : X) → is_below (seen u) (seen w) ≡ true → is_below (seen u) (seen v) ≡ false → is_below (seen w) (seen v) ≡ false
  not_below u w v up not = by (is_below (seen w) (seen v)) refl where
    by : (b : Bool) → is_below (seen w) (seen v) ≡ b → is_below (seen w) (seen v) ≡ false
    by true e = absurd (false≢true (sym not ∙ below_trans (seen u) (seen w) (seen v) up e))
    by false e = e

  over_more : (found : Option X) (o : Option X) (v : X) → IsOver found v → IsOver (greater_of seen found o) v
  over_more None o v h = let never = h.is in absurd cc
  over_more (Some u) None v h = h
  over_more (Some u) (Some w) v h = by (is_below (seen u) (seen w)) refl where
    same : u ≡ h.top
    same = let e = h.is in cc

    past : is_below (seen u) (seen v) ≡ false
    past = ap (λ y. is_below (seen y) (seen v)) same ∙ h.past

    by : (b : Bool) → is_below (seen u) (seen w) ≡ b → IsOver (greater_of seen (Some u) (Some w)) v
    by true up = record { top = w; is = second_taken seen u w up; past = not_below u w v up past }
    by false kept = record { top = u; is = first_kept seen u w kept; past = past }

  over_new : (found : Option X) (v : X) → IsOver (greater_of seen found (Some v)) v
  over_new None v = record { top = v; is = refl; past = below_itself (seen v) }
  over_new (Some u) v = by (is_below (seen u) (seen v)) refl where
    by : (b : Bool) → is_below (seen u) (seen v) ≡ b → IsOver (greater_of seen (Some u) (Some v)) v
    by true up = record { top = v; is = second_taken seen u v up; past = below_itself (seen v) }
    by false kept = record { top = u; is = first_kept seen u v kept; past = kept }

  over_all : (n : ℕ) (maps : ℕ → K → Option X) (key : K) (place : ℕ) (v : X) → place < n → maps place key ≡ Some v → IsOver (join_of seen n maps key) v
  over_all zero maps key place v within held = absurd (omega arith)
  over_all (suc n) maps key place v within held = by (cases_lt place n) (over_all n maps key place v) where
    by : (place < n) ⊎ (n ≤ place) → (place < n → maps place key ≡ Some v → IsOver (join_of seen n maps key) v) → IsOver (join_of seen (suc n) maps key) v
    by (inl earlier) rest = over_more (join_of seen n maps key) (maps n key) v (rest earlier held)
    by (inr last) rest =
        let here : n ≡ place = omega arith in
        let own : maps n key ≡ Some v = ap (λ p. maps p key) here ∙ held in
        subst (λ o. IsOver (greater_of seen (join_of seen n maps key) o) v) (sym own) (over_new (join_of seen n maps key) v)

  one_of : (P : X → Type 0) (o p : Option X) → IfSome o P → IfSome p P → IfSome (greater_of seen o p) P
  one_of P None p first second = second
  one_of P (Some u) None first second = first
  one_of P (Some u) (Some w) first second = by (is_below (seen u) (seen w)) where
    by : (b : Bool) → IfSome (cond b (Some w) (Some u)) P
    by true = second
    by false = first

  all_of : (P : X → Type 0) (n : ℕ) (maps : ℕ → K → Option X) (key : K) → ((p : ℕ) → p < n → IfSome (maps p key) P) → IfSome (join_of seen n maps key) P
  all_of P zero maps key each = tt
  all_of P (suc n) maps key each = one_of P (join_of seen n maps key) (maps n key) (all_of P n maps key (λ p within. each p (omega arith))) (each n (omega arith))

  tie : (is_value : X → Type 0) → ((v w : X) → is_value v → is_value w → seen v ≡ seen w → v ≡ w) → (key : K) → (v t : X) → ((seen v).key ≡ key) × is_value v → ((seen t).key ≡ key) × is_value t → is_below (seen t) (seen v) ≡ false → (b : Bool) → is_below (seen v) (seen t) ≡ b → greater_of seen (Some v) (Some t) ≡ Some t
  tie is_value exact key v t one two past true up = second_taken seen v t up
  tie is_value exact key v t one two past false not = first_kept seen v t not ∙ ap Some (exact v t one.1 two.1 (tied (seen v) (seen t) (one.0 ∙ sym two.0) not past))

  pub joined_already : (is_value : X → Type 0) → ((v w : X) → is_value v → is_value w → seen v ≡ seen w → v ≡ w) → (n place : ℕ) (maps : ℕ → K → Option X) (key : K) → ((p : ℕ) → p < n → IfSome (maps p key) (λ v. ((seen v).key ≡ key) × is_value v)) → place < n → greater_of seen (maps place key) (join_of seen n maps key) ≡ join_of seen n maps key
  joined_already is_value exact n place maps key each within = by (maps place key) refl (each place within) where
    by : (o : Option X) → maps place key ≡ o → IfSome o (λ v. ((seen v).key ≡ key) × is_value v) → greater_of seen o (join_of seen n maps key) ≡ join_of seen n maps key
    by None held good = refl
    by (Some v) held good =
        let over = over_all n maps key place v within held in
        let top : IfSome (Some over.top) (λ v. ((seen v).key ≡ key) × is_value v) = subst (λ o. IfSome o (λ v. ((seen v).key ≡ key) × is_value v)) over.is (all_of (λ v. ((seen v).key ≡ key) × is_value v) n maps key each) in
        subst (λ o. greater_of seen (Some v) o ≡ o) (sym over.is) (tie is_value exact key v over.top good top over.past (is_below (seen v) (seen over.top)) refl)
