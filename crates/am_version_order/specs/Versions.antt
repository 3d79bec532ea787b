-- A version as the merge sees it, and the order of the versions of one key.
use Rattle.std.specs.Prelude.{ℕ, ◌<◌, Bool, List, nat_lt}
use Rattle.std.specs.declared.cmp.Ordering.{Ordering}
use Rattle.std.specs.Ordering.{nat_cmp, ordering_then, is_lt}
use Rattle.std.specs.Cmp.Lexicographic.{slice_cmp}

-- the value of a key from one moment until another; its content is its canonical bytes
pub record Version (K : Type 0) : Type 0 where
  pub key : K
  pub updated : ℕ
  pub expires : ℕ
  pub content : List ℕ

-- the order by update moment, then by expiry, then by content byte by byte
abbrev pub rank_cmp : {K : Type 0} → Version K → Version K → Ordering
rank_cmp v w = ordering_then (nat_cmp v.updated w.updated)
    (ordering_then (nat_cmp v.expires w.expires) (slice_cmp nat_cmp v.content w.content))

-- of two versions of one key, w is the greater one
unfoldable pub is_below : {K : Type 0} → Version K → Version K → Bool
is_below v w = is_lt (rank_cmp v w)

-- a version is live before its expiry
abbrev pub is_live : {K : Type 0} → ℕ → Version K → Bool
is_live now v = nat_lt now v.expires

-- a version is live before its expiry, as a proposition
abbrev pub IsLive : {K : Type 0} → ℕ → Version K → Type 0
IsLive now v = now < v.expires
