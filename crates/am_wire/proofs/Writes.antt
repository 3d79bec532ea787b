-- Bytes that go out call by call.
use Rattle.std.proofs.Common.{◌≡◌, ◌≤◌, ◌+◌, ◌-◌, length-drop, length-take, ℕ, List, [], ◌++◌, length, take, drop, Result, Ok, Err, arith, Option}
use Rattle.std.proofs.Math.Seq.{take-add, take-length}
use Rattle.std.proofs.KnownBytes.{Appends-nil, Appends-kept, Appends-trans}
use Rattle.std.specs.Io.{WritesAtMost}
use Rattle.std.specs.Io.KnownBytes.{Appends, WriteAppends}
use Rattle.std.specs.Result.{result_unwrap_or}

-- what has gone out, and what a call takes of the rest
take-split : (n m : ℕ) (xs : List ℕ) → take (n + m) xs ≡ take n xs ++ take m (take (length xs - n) (drop n xs))
take-split n m xs =
    let rest : take (length xs - n) (drop n xs) ≡ drop n xs = rw (← length-drop n xs) (take-length (drop n xs)) in
    rw rest (take-add n m xs)

-- a write that fails takes nothing
write_took : {E : Type 0} (a b : Option (List ℕ)) (r : Result ℕ E) (buf : List ℕ) → WriteAppends a b r buf → Appends a b (take (result_unwrap_or r 0) buf)
write_took a b (Ok n) buf wrote = wrote
write_took a b (Err e) buf wrote = Appends-kept a a b [] (Appends-nil a) wrote

write_bound : {E : Type 0} (r : Result ℕ E) (buf : List ℕ) → WritesAtMost r buf → result_unwrap_or r 0 ≤ length buf
write_bound (Ok n) buf bound = bound
write_bound (Err e) buf bound = omega arith

-- what is left behind the bytes that went out
abbrev pub rest_of : List ℕ → ℕ → List ℕ
rest_of bytes sent = take (length bytes - sent) (drop sent bytes)

-- one call more
pub write_more : {E : Type 0} (a b c : Option (List ℕ)) (bytes : List ℕ) (sent : ℕ) (r : Result ℕ E) → sent ≤ length bytes → Appends a b (take sent bytes)
    → WritesAtMost r (rest_of bytes sent) → WriteAppends b c r (rest_of bytes sent)
    → (sent + result_unwrap_or r 0 ≤ length bytes) × Appends a c (take (sent + result_unwrap_or r 0) bytes)
write_more a b c bytes sent r within so_far bound wrote =
    let most = write_bound r (rest_of bytes sent) bound in
    let left : length (rest_of bytes sent) ≤ length bytes - sent = omega (arith, length-take (length bytes - sent) (drop sent bytes)) in
    let more = Appends-trans a b c _ _ so_far (write_took b c r (rest_of bytes sent) wrote) in
    (omega (arith, most, left, within), rw (take-split sent (result_unwrap_or r 0) bytes) more)
