-- The count of a text that is put together of two.
use mir.Val.{bool_byte}
use Rattle.std.proofs.Common.{◌≡◌, ℕ, ◌+◌, ◌-◌, ◌^◌, min, Bool, true, false, cond, refl, List, ◌++◌, length, length-append, arith}
use Rattle.am_wire.specs.Sizes.{counted}

pub counted_both : (x y sum : ℕ) (xs ys : List ℕ) → x ≡ counted (length xs) → y ≡ counted (length ys) → sum ≡ min (x + y) (2 ^ 64 - 1) → sum ≡ counted (length (xs ++ ys))
counted_both x y sum xs ys first second both = omega (arith, first, second, both, length-append xs ys)

-- a flag as a number
pub flag_number : (b : Bool) → bool_byte b ≡ cond b 1 0
flag_number true = refl
flag_number false = refl
