-- The greatest version of each key in a bare set, as a map: the map that never forgets.
use Rattle.std.proofs.Common.{◌≡◌, ◌⊎◌, inl, inr, ⊎_elim, ℕ, ◌<◌, ◌≤◌, Bool, true, false, cond, List, [], ◌∷◌, ◌++◌, Option, Some, None, refl, sym, ap, ◌∙◌, subst, arith}
use Rattle.std.specs.Prelude.{Contains, All}
use Rattle.std.proofs.lemmas.Bool.{lt-ltb, le-ltb, cases_lt}
use Rattle.std.proofs.lemmas.List.Elements.{Contains-append_left, Contains-append_right, Contains-push, Contains-push_cases, Contains-append_cases, All-contains}
use Rattle.std.specs.declared.cmp.Ordering.{Ordering}
use Rattle.std.specs.Ordering.{eq_by_cmp}
use Rattle.am_version_order.specs.Versions.{Version, is_below, IsLive}
use Rattle.am_version_order.proofs.Ranks.{below_itself, below_past, below_trans, tied}
use Rattle.am_merge.specs.Maps.{greater_of, if_live, IsMap, at}
use Rattle.am_merge.specs.Views.{IsBest, IsInView, IsViewAt}
use Rattle.am_merge.proofs.Keys.{IsKeyOrder, at-above, eq_itself, same_key}
use Rattle.am_merge.proofs.Puts.{greater_of-none}
use Rattle.am_merge.proofs.Joins.{greater_of-assoc}
use Rattle.am_collect.specs.Events.{HaveSame}

module _ {X : Type 0} where
  empty : (x : X) → ¬ Contains [] x
  empty x c = let few = c.1 in omega arith

  first_or_rest : (x : X) (xs : List X) (w : X) → Contains (x ∷ xs) w → (x ≡ w) ⊎ Contains xs w
  first_or_rest x xs w c = ⊎_elim (λ d. ⊎_elim (λ none. absurd (empty w none)) inl (Contains-push_cases [] x w d)) inr (Contains-append_cases (x ∷ []) xs w c)

  is_first : (x : X) (xs : List X) → Contains (x ∷ xs) x
  is_first x xs = Contains-append_left (x ∷ []) xs x (Contains-push [] x)

  is_later : (x : X) (xs : List X) (w : X) → Contains xs w → Contains (x ∷ xs) w
  is_later x xs w c = Contains-append_right (x ∷ []) xs w c

module _ {K X : Type 0} (seen : X → Version K) where
  -- what is greater than u isn't below what u isn't below
  not_below_after : (u w v : X) → is_below (seen u) (seen w) ≡ true → is_below (seen u) (seen v) ≡ false → is_below (seen w) (seen v) ≡ false
  not_below_after u w v up not = by (is_below (seen w) (seen v)) refl where
    by : (b : Bool) → is_below (seen w) (seen v) ≡ b → is_below (seen w) (seen v) ≡ false
    by true e = let further = below_trans (seen u) (seen w) (seen v) up e in absurd cc
    by false e = e

  -- there is a version, and v isn't greater
  record IsPast (found : Option X) (v : X) : Type 0 where
    top : X
    is : found ≡ Some top
    past : is_below (seen top) (seen v) ≡ false

  pub second_taken : (v w : X) → is_below (seen v) (seen w) ≡ true → greater_of seen (Some v) (Some w) ≡ Some w
  second_taken v w up = rw up refl

  pub first_kept : (v w : X) → is_below (seen v) (seen w) ≡ false → greater_of seen (Some v) (Some w) ≡ Some v
  first_kept v w not = rw not refl

  -- the greater one of two is one of them
  pub one_of : (o p : Option X) (y : X) → greater_of seen o p ≡ Some y → (o ≡ Some y) ⊎ (p ≡ Some y)
  one_of None p y e = inr e
  one_of (Some v) None y e = inl e
  one_of (Some v) (Some w) y e = by (is_below (seen v) (seen w)) refl where
    by : (b : Bool) → is_below (seen v) (seen w) ≡ b → (Some v ≡ Some y) ⊎ (Some w ≡ Some y)
    by true up = inr (sym (second_taken v w up) ∙ e)
    by false not = inl (sym (first_kept v w not) ∙ e)

  -- and v isn't greater than it, where it isn't greater than one of them
  past_first : (u w v : X) → is_below (seen u) (seen v) ≡ false → IsPast (greater_of seen (Some u) (Some w)) v
  past_first u w v not = by (is_below (seen u) (seen w)) refl where
    by : (b : Bool) → is_below (seen u) (seen w) ≡ b → IsPast (greater_of seen (Some u) (Some w)) v
    by true up = record { top = w; is = second_taken u w up; past = not_below_after u w v up not }
    by false kept = record { top = u; is = first_kept u w kept; past = not }

  past_second : (u w v : X) → is_below (seen w) (seen v) ≡ false → IsPast (greater_of seen (Some u) (Some w)) v
  past_second u w v not = by (is_below (seen u) (seen w)) refl where
    over : is_below (seen u) (seen w) ≡ false → (b : Bool) → is_below (seen u) (seen v) ≡ b → is_below (seen u) (seen v) ≡ false
    over kept true e = let up = below_past (seen u) (seen w) (seen v) kept e in absurd cc
    over kept false e = e

    by : (b : Bool) → is_below (seen u) (seen w) ≡ b → IsPast (greater_of seen (Some u) (Some w)) v
    by true up = record { top = w; is = second_taken u w up; past = not }
    by false kept = record { top = u; is = first_kept u w kept; past = over kept (is_below (seen u) (seen v)) refl }

  past_left : (o p : Option X) (v : X) → IsPast o v → IsPast (greater_of seen o p) v
  past_left None p v h = let never = h.is in absurd cc
  past_left (Some u) None v h = h
  past_left (Some u) (Some w) v h = let same : u ≡ h.top = (let e = h.is in cc) in past_first u w v (ap (λ y. is_below (seen y) (seen v)) same ∙ h.past)

  past_right : (o p : Option X) (v : X) → IsPast p v → IsPast (greater_of seen o p) v
  past_right None p v h = h
  past_right (Some u) None v h = let never = h.is in absurd cc
  past_right (Some u) (Some w) v h = let same : w ≡ h.top = (let e = h.is in cc) in past_second u w v (ap (λ y. is_below (seen y) (seen v)) same ∙ h.past)

  -- what is live, or not
  pub live_kept : (now : ℕ) (v : X) → now < (seen v).expires → if_live seen now (Some v) ≡ Some v
  live_kept now v live = rw (lt-ltb now (seen v).expires live) refl

  pub dead_gone : (now : ℕ) (v : X) → (seen v).expires ≤ now → if_live seen now (Some v) ≡ None
  dead_gone now v dead = rw (le-ltb now (seen v).expires dead) refl

  pub live_from : (now : ℕ) (o : Option X) (v : X) → if_live seen now o ≡ Some v → (o ≡ Some v) × (now < (seen v).expires)
  live_from now None v e = absurd cc
  live_from now (Some w) v e = by (cases_lt now (seen w).expires) where
    by : (now < (seen w).expires) ⊎ ((seen w).expires ≤ now) → (Some w ≡ Some v) × (now < (seen v).expires)
    by (inl live) = let found : Some w ≡ Some v = sym (live_kept now w live) ∙ e in let same : w ≡ v = cc in (found, subst (λ y. now < (seen y).expires) same live)
    by (inr dead) = let never : None ≡ Some v = sym (dead_gone now w dead) ∙ e in absurd cc

  -- two versions that are best at a key are seen alike
  best_alike : (set : List X) (v w : X) → (seen v).key ≡ (seen w).key → IsBest seen set v → IsBest seen set w → seen v ≡ seen w
  best_alike set v w key one other = tied (seen v) (seen w) key (one.unbeaten w other.member (sym key)) (other.unbeaten v one.member key)

  best_same : (set other : List X) (v : X) → HaveSame set other → IsBest seen set v → IsBest seen other v
  best_same set other v same best = record { member = (same v).0 best.member; unbeaten = λ w c. best.unbeaten w ((same w).1 c) }

  -- sets with the same members show the same
  pub same_view : (is_value : X → Type 0) → ((v w : X) → is_value v → is_value w → seen v ≡ seen w → v ≡ w) → (set other : List X) (now : ℕ) (key : K) (one two : Option X) → HaveSame set other → All is_value set → IsViewAt seen set now key one → IsViewAt seen other now key two → one ≡ two
  same_view is_value exact set other now key None None same values none none_too = refl
  same_view is_value exact set other now key None (Some w) same values none found = absurd (none w (record { best = best_same other set w (λ v. ((same v).1, (same v).0)) found.1.best; live = found.1.live }) found.0)
  same_view is_value exact set other now key (Some v) None same values found none = absurd (none v (record { best = best_same set other v same found.1.best; live = found.1.live }) found.0)
  same_view is_value exact set other now key (Some v) (Some w) same values one two =
      let best = best_same other set w (λ u. ((same u).1, (same u).0)) two.1.best in
      let value_of : (u : X) → Contains set u → is_value u = λ u c. All-contains is_value set u values c in
      ap Some (exact v w (value_of v one.1.best.member) (value_of w best.member) (best_alike set v w (one.0 ∙ sym two.0) one.1.best best))

  module _ (cmp : K → K → Ordering) where
    -- the version where it has the key
    abbrev of_key : X → K → Option X
    of_key v key = at seen cmp (v ∷ []) key

    abbrev pub greatest : List X → K → Option X
    greatest [] key = None
    greatest (v ∷ vs) key = greater_of seen (of_key v key) (greatest vs key)

    -- one version more at the end
    pub greatest-push : (vs : List X) (v : X) (key : K) → greatest (vs ++ v ∷ []) key ≡ greater_of seen (greatest vs key) (of_key v key)
    greatest-push [] v key = greater_of-none seen (of_key v key)
    greatest-push (w ∷ vs) v key = ap (greater_of seen (of_key w key)) (greatest-push vs v key) ∙ sym (greater_of-assoc seen (of_key w key) (greatest vs key) (of_key v key))

  module _ (cmp : K → K → Ordering) (keys : IsKeyOrder cmp) where
    own : (v : X) → of_key cmp v (seen v).key ≡ Some v
    own v = rw (eq_itself seen cmp keys (seen v).key) refl

    own_from : (v : X) (key : K) (y : X) → of_key cmp v key ≡ Some y → (v ≡ y) × ((seen y).key ≡ key)
    own_from v key y e = by (eq_by_cmp cmp (seen v).key key) refl where
      by : (b : Bool) → eq_by_cmp cmp (seen v).key key ≡ b → (v ≡ y) × ((seen y).key ≡ key)
      by true is =
          let found : Some v ≡ Some y = (rw is at e) in
          let same : v ≡ y = cc in
          (same, subst (λ u. (seen u).key ≡ key) same (same_key seen cmp keys (seen v).key key is))
      by false is = let never : None ≡ Some y = (rw is at e) in absurd cc

    -- the greatest is one of the set, of the key
    pub greatest-Some : (vs : List X) (key : K) (g : X) → greatest cmp vs key ≡ Some g → Contains vs g × ((seen g).key ≡ key)
    greatest-Some [] key g e = absurd cc
    greatest-Some (v ∷ vs) key g e = by (one_of (of_key cmp v key) (greatest cmp vs key) g e) (greatest-Some vs key g) where
      by : (of_key cmp v key ≡ Some g) ⊎ (greatest cmp vs key ≡ Some g) → (greatest cmp vs key ≡ Some g → Contains vs g × ((seen g).key ≡ key)) → Contains (v ∷ vs) g × ((seen g).key ≡ key)
      by (inl here) rest = let one = own_from v key g here in (subst (λ y. Contains (v ∷ vs) y) one.0 (is_first v vs), one.1)
      by (inr there) rest = let one = rest there in (is_later v vs g one.0, one.1)

    -- and nothing of the set is above it
    greatest_past : (vs : List X) (v : X) → Contains vs v → IsPast (greatest cmp vs (seen v).key) v
    greatest_past [] v c = absurd (empty v c)
    greatest_past (w ∷ vs) v c = by (first_or_rest w vs v c) (greatest_past vs v) where
      by : (w ≡ v) ⊎ Contains vs v → (Contains vs v → IsPast (greatest cmp vs (seen v).key) v) → IsPast (greatest cmp (w ∷ vs) (seen v).key) v
      by (inl same) rest = past_left (of_key cmp w (seen v).key) (greatest cmp vs (seen v).key) v (record { top = v; is = ap (λ y. of_key cmp y (seen v).key) same ∙ own v; past = below_itself (seen v) })
      by (inr later) rest = past_right (of_key cmp w (seen v).key) (greatest cmp vs (seen v).key) v (rest later)

    pub greatest-best : (vs : List X) (key : K) (g : X) → greatest cmp vs key ≡ Some g → IsBest seen vs g
    greatest-best vs key g e = record {
      member = (greatest-Some vs key g e).0;
      unbeaten = λ w c same.
          let past = greatest_past vs w c in
          let of_it : (seen w).key ≡ key = same ∙ (greatest-Some vs key g e).1 in
          let found : Some past.top ≡ Some g = sym past.is ∙ (ap (greatest cmp vs) of_it ∙ e) in
          let top : past.top ≡ g = cc in
          subst (λ y. is_below (seen y) (seen w) ≡ false) top past.past;
    }

    -- where the greatest isn't live, or there is none, no version of the key is in view
    none_in_view : (vs : List X) (now : ℕ) (v : X) → if_live seen now (greatest cmp vs (seen v).key) ≡ None → ¬ IsInView seen vs now v
    none_in_view vs now v e shown =
        let past = greatest_past vs v shown.best.member in
        let same : seen past.top ≡ seen v = best_alike vs past.top v (greatest-Some vs (seen v).key past.top past.is).1 (greatest-best vs (seen v).key past.top past.is) shown.best in
        let live : now < (seen past.top).expires = subst (λ s. IsLive now s) (sym same) shown.live in
        let found : if_live seen now (greatest cmp vs (seen v).key) ≡ Some past.top = ap (if_live seen now) past.is ∙ live_kept now past.top live in
        let never : None ≡ Some past.top = sym e ∙ found in
        cc

    -- a bare set shows the greatest version of a key, while it is live
    pub greatest_in_view : (vs : List X) (now : ℕ) (key : K) (found : Option X) → if_live seen now (greatest cmp vs key) ≡ found → IsViewAt seen vs now key found
    greatest_in_view vs now key None e = λ v shown same. none_in_view vs now v (ap (λ k. if_live seen now (greatest cmp vs k)) same ∙ e) shown
    greatest_in_view vs now key (Some v) e =
        let one = live_from now (greatest cmp vs key) v e in
        ((greatest-Some vs key v one.0).1, record { best = greatest-best vs key v one.0; live = one.1 })

    -- a map has of each key the greatest of its versions
    only_one : (x : X) (xs : List X) (key : K) (b : Bool) → eq_by_cmp cmp (seen x).key key ≡ b → IsMap seen cmp (x ∷ xs) → at seen cmp xs key ≡ greatest cmp xs key → cond b (Some x) (at seen cmp xs key) ≡ greater_of seen (cond b (Some x) None) (greatest cmp xs key)
    only_one x xs key true e map rest =
        let same : (seen x).key ≡ key = same_key seen cmp keys (seen x).key key e in
        let none : at seen cmp xs key ≡ None = subst (λ k. at seen cmp xs k ≡ None) same (at-above seen cmp keys xs (seen x).key map.0) in
        ap (λ o. greater_of seen (Some x) o) (sym none ∙ rest)
    only_one x xs key false e map rest = rest

    pub at-greatest : (xs : List X) (key : K) → IsMap seen cmp xs → at seen cmp xs key ≡ greatest cmp xs key
    at-greatest [] key map = refl
    at-greatest (x ∷ xs) key map = only_one x xs key (eq_by_cmp cmp (seen x).key key) refl map (at-greatest xs key map.1)
