-- Two maps have a join: the versions of the second are put into the first, one after the other.
use Rattle.std.proofs.Common.{◌≡◌, Bool, true, false, cond, List, [], ◌∷◌, Option, Some, None, refl, sym, ap, ◌∙◌, subst}
use Rattle.std.proofs.lemmas.Cmp.{tied_itself}
use Rattle.std.specs.declared.cmp.Ordering.{Ordering}
use Rattle.std.specs.declared.cmp.Ordering.TheVariants.{Less, Equal, Greater}
use Rattle.std.specs.Ordering.{eq_by_cmp, ordering_reverse}
use Rattle.am_version_order.specs.Versions.{Version, is_below}
use Rattle.am_merge.specs.Maps.{greater_of, IsMap, at, IsJoin}
use Rattle.am_merge.proofs.Keys.{IsKeyOrder, AreAbove, at-above, below_further, same_key}
use Rattle.am_merge.proofs.Puts.{greater_of-none, in_gap}
use Rattle.am_merge.proofs.Joins.{join_right}

module _ {K X : Type 0} (seen : X → Version K) (cmp : K → K → Ordering) (keys : IsKeyOrder cmp) where
  -- v joined to a map; what is below both is below the join
  record IsPutTo (map : List X) (v : X) (new : List X) : Type 0 where
    order : IsMap seen cmp new
    joined : IsJoin seen cmp map (v ∷ []) new
    above : (k : K) → cmp k (seen v).key ≡ Less → AreAbove seen cmp k map → AreAbove seen cmp k new

  -- what the join has at a key, by whether it is that of x and that of v
  past_first : (x v : X) (a b : Bool) (o n : Option X) → (a ≡ true → b ≡ true → ⊥) → n ≡ greater_of seen o (cond b (Some v) None) → cond a (Some x) n ≡ greater_of seen (cond a (Some x) o) (cond b (Some v) None)
  past_first x v true true o n apart rest = absurd (apart refl refl)
  past_first x v true false o n apart rest = refl
  past_first x v false b o n apart rest = rest

  over_lesser : (e : Bool) (x v : X) (o : Option X) → is_below (seen x) (seen v) ≡ true → cond e (Some v) o ≡ greater_of seen (cond e (Some x) o) (cond e (Some v) None)
  over_lesser true x v o less = rw less refl
  over_lesser false x v o less = sym (greater_of-none seen o)

  under_greater : (e : Bool) (x v : X) (o : Option X) → is_below (seen x) (seen v) ≡ false → cond e (Some x) o ≡ greater_of seen (cond e (Some x) o) (cond e (Some v) None)
  under_greater true x v o not_less = rw not_less refl
  under_greater false x v o not_less = sym (greater_of-none seen o)

  two_keys : (x v : X) (k : K) → cmp (seen x).key (seen v).key ≡ Less → eq_by_cmp cmp (seen x).key k ≡ true → eq_by_cmp cmp (seen v).key k ≡ true → ⊥
  two_keys x v k less here there =
      let one = same_key seen cmp keys (seen x).key k here in
      let other = same_key seen cmp keys (seen v).key k there in
      let itself = tied_itself keys.total k in
      let tie : cmp (seen x).key (seen v).key ≡ cmp k k = ap (λ j. cmp j (seen v).key) one ∙ ap (λ j. cmp k j) other in
      absurd cc

  -- behind the first version, over it, under it or before it
  put_behind : (x : X) (rest : List X) (v : X) (new : List X) → cmp (seen x).key (seen v).key ≡ Less → IsMap seen cmp (x ∷ rest) → IsPutTo rest v new → IsPutTo (x ∷ rest) v (x ∷ new)
  put_behind x rest v new less map put = record {
    order = (put.above (seen x).key less map.0, put.order);
    joined = λ k. past_first x v (eq_by_cmp cmp (seen x).key k) (eq_by_cmp cmp (seen v).key k) (at seen cmp rest k) (at seen cmp new k) (two_keys x v k less) (put.joined k);
    above = λ k below above. (above.0, put.above k below above.1);
  }

  put_over : (x : X) (rest : List X) (v : X) → (seen x).key ≡ (seen v).key → is_below (seen x) (seen v) ≡ true → IsMap seen cmp (x ∷ rest) → IsPutTo (x ∷ rest) v (v ∷ rest)
  put_over x rest v key less map = record {
    order = (subst (λ k. AreAbove seen cmp k rest) key map.0, map.1);
    joined = λ k.
        over_lesser (eq_by_cmp cmp (seen v).key k) x v (at seen cmp rest k) less
        ∙ ap (λ j. greater_of seen (cond (eq_by_cmp cmp j k) (Some x) (at seen cmp rest k)) (at seen cmp (v ∷ []) k)) (sym key);
    above = λ k below above. (below, above.1);
  }

  put_under : (x : X) (rest : List X) (v : X) → (seen x).key ≡ (seen v).key → is_below (seen x) (seen v) ≡ false → IsMap seen cmp (x ∷ rest) → IsPutTo (x ∷ rest) v (x ∷ rest)
  put_under x rest v key not_less map = record {
    order = map;
    joined = λ k.
        under_greater (eq_by_cmp cmp (seen x).key k) x v (at seen cmp rest k) not_less
        ∙ ap (λ j. greater_of seen (at seen cmp (x ∷ rest) k) (cond (eq_by_cmp cmp j k) (Some v) None)) key;
    above = λ k below above. above;
  }

  put_before : (x : X) (rest : List X) (v : X) → cmp (seen v).key (seen x).key ≡ Less → IsMap seen cmp (x ∷ rest) → IsPutTo (x ∷ rest) v (v ∷ x ∷ rest)
  put_before x rest v less map =
      let all : AreAbove seen cmp (seen v).key (x ∷ rest) = (less, below_further seen cmp keys (seen v).key (seen x).key rest less map.0) in
      record {
        order = (all, map);
        joined = λ k. in_gap seen (eq_by_cmp cmp (seen v).key k) v (at seen cmp (x ∷ rest) k)
            (λ e. at-above seen cmp keys (x ∷ rest) k (subst (λ j. AreAbove seen cmp j (x ∷ rest)) (same_key seen cmp keys (seen v).key k e) all));
        above = λ k below above. (below, above);
      }

  abbrev HasPut : List X → X → Type 0
  HasPut map v = (new : List X) × IsPutTo map v new

  put_here : (x : X) (rest : List X) (v : X) (b : Bool) → is_below (seen x) (seen v) ≡ b → (seen x).key ≡ (seen v).key → IsMap seen cmp (x ∷ rest) → HasPut (x ∷ rest) v
  put_here x rest v true less key map = (v ∷ rest, put_over x rest v key less map)
  put_here x rest v false not_less key map = (x ∷ rest, put_under x rest v key not_less map)

  put_by : (x : X) (rest : List X) (v : X) (o : Ordering) → cmp (seen x).key (seen v).key ≡ o → IsMap seen cmp (x ∷ rest) → HasPut rest v → HasPut (x ∷ rest) v
  put_by x rest v Less e map further = (x ∷ further.0, put_behind x rest v further.0 e map further.1)
  put_by x rest v Equal e map further = put_here x rest v (is_below (seen x) (seen v)) refl (keys.exact (seen x).key (seen v).key e) map
  put_by x rest v Greater e map further = (v ∷ x ∷ rest, put_before x rest v (keys.total.antisymm (seen v).key (seen x).key ∙ ap ordering_reverse e) map)

  has_put : (map : List X) (v : X) → IsMap seen cmp map → HasPut map v
  has_put [] v map = (v ∷ [], record { order = (tt, tt); joined = λ k. refl; above = λ k below above. (below, tt) })
  has_put (x ∷ rest) v map = put_by x rest v (cmp (seen x).key (seen v).key) refl map (has_put rest v map.1)

  -- the first version of a map is joined to the others
  first_joined : (w : X) (rest : List X) → IsMap seen cmp (w ∷ rest) → IsJoin seen cmp rest (w ∷ []) (w ∷ rest)
  first_joined w rest map k =
      in_gap seen (eq_by_cmp cmp (seen w).key k) w (at seen cmp rest k)
      (λ e. at-above seen cmp keys rest k (subst (λ j. AreAbove seen cmp j rest) (same_key seen cmp keys (seen w).key k e) map.0))

  pub has_join : (a b : List X) → IsMap seen cmp a → IsMap seen cmp b → (joined : List X) × IsMap seen cmp joined × IsJoin seen cmp a b joined
  has_join a [] is_a is_b = (a, is_a, λ k. sym (greater_of-none seen (at seen cmp a k)))
  has_join a (w ∷ rest) is_a is_b =
      let (before, order, joined) = has_join a rest is_a is_b.1 in
      let (new, put) = has_put before w order in
      (new, put.order, join_right seen cmp a rest (w ∷ []) before (w ∷ rest) new joined (first_joined w rest is_b) put.joined)
