-- Sums that cover the beginning of an encoding still do as more of it comes.
use Rattle.std.proofs.Common.{◌≡◌, ℕ, zero, suc, ◌+◌, ◌≤◌, List, ◌++◌, length, length-append, take, drop, Option, Some, None, IfSome, refl, sym, ap, ◌∙◌, subst, arith}
use Rattle.std.proofs.lemmas.List.{drop-append-le, length-drop, take-append-le}
use Rattle.am_peer_auth.specs.declared.summing.Summing.{Summing}
use Rattle.am_peer_auth.specs.Macs.{Holds}
use Rattle.am_peer_auth.specs.Summings.{CoversIn, encoding_so_far}

grown : (bytes piece : List ℕ) → 36 ≤ length bytes → encoding_so_far (bytes ++ piece) ≡ encoding_so_far bytes ++ piece
grown bytes piece long =
    ap (drop 4) (drop-append-le 32 bytes piece (omega (arith, long)))
    ∙ drop-append-le 4 (drop 32 bytes) piece (omega (arith, length-drop 32 bytes, long))

long_enough : (n : ℕ) (bytes : List ℕ) → n + 1 ≤ length (encoding_so_far bytes) → 36 ≤ length bytes
long_enough n bytes within = omega (arith, length-drop 4 (drop 32 bytes), length-drop 32 bytes, within)

same_beginning : (n : ℕ) (bytes piece : List ℕ) → n ≤ length (encoding_so_far bytes) → take n (encoding_so_far (bytes ++ piece)) ≡ take n (encoding_so_far bytes)
same_beginning zero bytes piece within = refl
same_beginning (suc n) bytes piece within =
    ap (take (suc n)) (grown bytes piece (long_enough n bytes (omega (arith, within))))
    ∙ take-append-le (suc n) (encoding_so_far bytes) piece within

still_within : (n : ℕ) (bytes piece : List ℕ) → n ≤ length (encoding_so_far bytes) → n ≤ length (encoding_so_far (bytes ++ piece))
still_within zero bytes piece within = omega arith
still_within (suc n) bytes piece within =
    let longer : length (encoding_so_far (bytes ++ piece)) ≡ length (encoding_so_far bytes) + length piece =
    ap length (grown bytes piece (long_enough n bytes (omega (arith, within)))) ∙ length-append (encoding_so_far bytes) piece in
    omega (arith, within, longer)

-- more bytes come
pub covers_on : (bytes piece : List ℕ) (summing : Option Summing) → IfSome summing (CoversIn bytes) → IfSome summing (CoversIn (bytes ++ piece))
covers_on bytes piece None covers = tt
covers_on bytes piece (Some summing) covers = record {
  within = still_within summing.count bytes piece covers.within;
  holds = subst (λ (l : List ℕ). Holds summing.mac summing.secret.items (summing.front.items ++ l)) (sym (same_beginning summing.count bytes piece covers.within)) covers.holds;
}
