-- By which part of the order one version is less than another.
use Rattle.std.proofs.Common.{◌≡◌, ℕ, ◌<◌, Bool, true, false, cond, refl, sym, subst, arith}
use Rattle.std.specs.Prelude.{nat_lt}
use Rattle.std.proofs.lemmas.Bool.Decides.{nat_tests}
use Rattle.std.specs.declared.cmp.Ordering.{Ordering}
use Rattle.std.specs.declared.cmp.Ordering.TheVariants.{Less, Equal, Greater}
use Rattle.std.specs.Ordering.{nat_cmp, ordering_then, is_lt}
use Rattle.std.specs.Cmp.{nat_cmp_is}
use Rattle.std.specs.Cmp.Lexicographic.{slice_cmp}
use Rattle.std.proofs.lemmas.Cmp.{ranked}
use Rattle.am_version_order.specs.Versions.{Version, rank_cmp, is_below}
use Rattle.am_report.specs.Groups.{IsLessBy, part_between}
use Rattle.am_report.specs.declared.diff_field.DiffField.{DiffField}
use Rattle.am_report.specs.declared.diff_field.DiffField.TheVariants.{Update, Expiry, Bytes}

less_is : (a b : ℕ) → a < b → nat_cmp a b ≡ Less
less_is a b less = sym (nat_cmp_is a b Less less)

same_is : (a b : ℕ) → a ≡ b → nat_cmp a b ≡ Equal
same_is a b same = sym (nat_cmp_is a b Equal same)

lt_is : (o : Ordering) → is_lt o ≡ true → o ≡ Less
lt_is Less e = refl
lt_is Equal e = absurd cc
lt_is Greater e = absurd cc

-- either the first part is less, or it is the same and the rest is less
then_less : (a b : ℕ) (r o : Ordering) → r ≡ nat_cmp a b → ordering_then r o ≡ Less → (nat_lt a b ≡ false → (a ≡ b) × (o ≡ Less))
then_less a b Less o e both not_less = let less : a < b = ranked a b Less e in absurd (grind (arith, nat_tests))
then_less a b Equal o e both not_less = (ranked a b Equal e, both)
then_less a b Greater o e both not_less = absurd cc

module _ {K : Type 0} where
  less_by : (v w : Version K) (t u : Bool) → nat_lt v.updated w.updated ≡ t → nat_lt v.expires w.expires ≡ u → rank_cmp v w ≡ Less → IsLessBy (cond t Update (cond u Expiry Bytes)) v w
  less_by v w true u e f less = grind (arith, nat_tests)
  less_by v w false true e f less =
      let first = then_less v.updated w.updated (nat_cmp v.updated w.updated) (ordering_then (nat_cmp v.expires w.expires) (slice_cmp nat_cmp v.content w.content)) refl less e in
      (first.0, grind (arith, nat_tests))
  less_by v w false false e f less =
      let first = then_less v.updated w.updated (nat_cmp v.updated w.updated) (ordering_then (nat_cmp v.expires w.expires) (slice_cmp nat_cmp v.content w.content)) refl less e in
      let second = then_less v.expires w.expires (nat_cmp v.expires w.expires) (slice_cmp nat_cmp v.content w.content) refl first.1 f in
      (first.0, second.0, second.1)

  pub less_by_part : (v w : Version K) → is_below v w ≡ true → IsLessBy (part_between v w) v w
  unfolding is_below
  less_by_part v w below = less_by v w (nat_lt v.updated w.updated) (nat_lt v.expires w.expires) refl refl (lt_is (rank_cmp v w) below)

  -- the same of a part that is named
  pub less_as : (part : DiffField) (v w : Version K) → is_below v w ≡ true → part ≡ part_between v w → IsLessBy part v w
  less_as part v w below is = subst (λ p. IsLessBy p v w) (sym is) (less_by_part v w below)

  pub part_below : (part : DiffField) (v w : Version K) → IsLessBy part v w → is_below v w ≡ true
  unfolding is_below
  part_below Update v w less = rw (less_is v.updated w.updated less) refl
  part_below Expiry v w less = rw (same_is v.updated w.updated less.0, less_is v.expires w.expires less.1) refl
  part_below Bytes v w less = rw (same_is v.updated w.updated less.0, same_is v.expires w.expires less.1, less.2) refl
