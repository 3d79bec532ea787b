-- A merge, one version further.
use Rattle.std.proofs.Common.{◌≡◌, ℕ, ◌<◌, ◌+◌, zero, arith, suc, cond, List, [], ◌∷◌, ◌++◌, length, take, drop, get_or, Some, sym, ap, ◌∙◌, subst, append-nil, count_by}
use Rattle.std.proofs.lemmas.List.{take_more}
use Rattle.std.proofs.lemmas.List.Sums.{sum_by_more}
use Rattle.std.specs.declared.cmp.Ordering.{Ordering}
use Rattle.std.specs.Ordering.{eq_by_cmp}
use Rattle.am_version_order.specs.Versions.{Version}
use Rattle.am_merge.specs.Maps.{greater_of, IsMap, at, IsJoin, replaces, is_above}
use Rattle.am_merge.proofs.Keys.{IsKeyOrder, AreBelow, IsMap-without, at-between, at-below, same_key}
use Rattle.am_merge.proofs.Puts.{cut_at, in_gap, greater_of-none}
use Rattle.am_merge.proofs.Joins.{greater_of-assoc}

module _ {K X : Type 0} (seen : X → Version K) (cmp : K → K → Ordering) (keys : IsKeyOrder cmp) (old mid other : List X) (i : ℕ) (v : X) (map : IsMap seen cmp other) (within : i < length other) (is : v ≡ get_or other i v) (so_far : IsJoin seen cmp old (take i other) mid) where
  before : AreBelow seen cmp (seen v).key (take i other)
  before = (IsMap-without seen cmp keys v (take i other) (drop (suc i) other) (subst (IsMap seen cmp) (cut_at other i v within is) map)).1.below

  one_more : take (i + 1) other ≡ take i other ++ v ∷ []
  one_more = take_more other i v within ∙ ap (λ x. take i other ++ x ∷ []) (sym is)

  at-more : (k : K) → at seen cmp (take (i + 1) other) k ≡ greater_of seen (at seen cmp (take i other) k) (at seen cmp (v ∷ []) k)
  at-more k =
      ap (λ xs. at seen cmp xs k) one_more
      ∙ at-between seen cmp keys v (take i other) [] k before
      ∙ ap (λ xs. cond (eq_by_cmp cmp (seen v).key k) (Some v) (at seen cmp xs k)) (append-nil (take i other))
      ∙ in_gap seen (eq_by_cmp cmp (seen v).key k) v (at seen cmp (take i other) k) (λ e. ap (λ j. at seen cmp (take i other) j) (sym (same_key seen cmp keys (seen v).key k e)) ∙ at-below seen cmp keys (take i other) (seen v).key before)

  pub merge_more : (new : List X) → IsJoin seen cmp mid (v ∷ []) new → IsJoin seen cmp old (take (i + 1) other) new
  merge_more new taken k =
      taken k
      ∙ ap (λ o. greater_of seen o (at seen cmp (v ∷ []) k)) (so_far k)
      ∙ greater_of-assoc seen (at seen cmp old k) (at seen cmp (take i other) k) (at seen cmp (v ∷ []) k)
      ∙ ap (λ o. greater_of seen (at seen cmp old k) o) (sym (at-more k))

  -- what v replaces is what the old map has
  pub replaces_old : replaces seen cmp mid v ≡ replaces seen cmp old v
  replaces_old =
      ap (λ o. is_above seen o v)
      (so_far (seen v).key
      ∙ ap (λ o. greater_of seen (at seen cmp old (seen v).key) o) (at-below seen cmp keys (take i other) (seen v).key before)
      ∙ greater_of-none seen (at seen cmp old (seen v).key))

  pub count_more : count_by (replaces seen cmp old) (take (i + 1) other) ≡ count_by (replaces seen cmp old) (take i other) + cond (replaces seen cmp mid v) 1 0
  count_more =
      sum_by_more (λ x. cond (replaces seen cmp old x) 1 0) other i v within
      ∙ ap (λ x. count_by (replaces seen cmp old) (take i other) + cond (replaces seen cmp old x) 1 0) (sym is)
      ∙ ap (λ b. count_by (replaces seen cmp old) (take i other) + cond b 1 0) (sym replaces_old)

-- what stands at the place from which on a list is known
pub at_rest : {X : Type 0} (xs : List X) (i : ℕ) (v : X) (rest : List X) → drop i xs ≡ v ∷ rest → (i < length xs) × ((v ≡ get_or xs i v) × (drop (suc i) xs ≡ rest))
at_rest [] zero v rest is = cc
at_rest [] (suc i) v rest is = cc
at_rest (x ∷ xs) zero v rest is = let first : x ≡ v = cc in let later : xs ≡ rest = cc in (omega arith, (sym first, later))
at_rest (x ∷ xs) (suc i) v rest is = let further = at_rest xs i v rest is in let low = further.0 in (omega arith, further.1)
