-- The reading of a file whose content is known.
use Rattle.std.proofs.Common.{◌≡◌, inl, inr, ℕ, ◌+◌, ◌<◌, List, [], ◌∷◌, ◌++◌, length, take, drop, Option, Some, None, IfSome, sym, ◌∙◌, ap, arith, append_assoc, length-append}
use Rattle.std.proofs.lemmas.List.{take_at}
use Rattle.std.specs.Int.{w64, from_le_bytes}
use Rattle.std.specs.Io.KnownBytes.{Consumes, IsAtEnd}
use Rattle.am_store.specs.Blocks.{first_block, recovered}
use Rattle.am_store.specs.Reading.{IsNext, IsLast}
use Rattle.am_store.proofs.BlockLemmas.{block, first_is, first_of, first_view, length_of, recovered_none, recovered_opens}

-- an open gate, a length and so many bytes
pub whole_is : (head size batch rest : List ℕ) → head ≡ 1 ∷ size → length size ≡ 8 → from_le_bytes w64 size ≡ length batch → first_block (head ++ batch ++ rest) ≡ block batch rest
whole_is head size batch rest is eight n = ap (λ (l : List ℕ). first_block (l ++ batch ++ rest)) is ∙ first_is size batch rest eight n

header_is : (header batch rest : List ℕ) → length header ≡ 8 → take 8 (header ++ batch ++ rest) ≡ header
header_is header batch rest eight = ap (take 8) (append_assoc header batch rest) ∙ take_at header (batch ++ rest) 8 eight

-- fewer bytes than the length tells
cut_short : (size batch : List ℕ) → length size ≡ 8 → length batch < from_le_bytes w64 size → first_block (1 ∷ (size ++ batch ++ [])) ≡ None
cut_short size batch eight few = elim (first_view (1 ∷ (size ++ batch ++ []))) [
  | inl none ↦ none
  | inr opens ↦
      let (other, rest, o) = opens in
      let same : size ≡ o.header = sym (header_is size batch [] eight) ∙ ap (λ (l : List ℕ). take 8 (drop 1 l)) o.split ∙ header_is o.header other rest o.eight in
      let n : from_le_bytes w64 size ≡ length other = ap (from_le_bytes w64) same ∙ o.size in
      let long = length_of (1 ∷ (size ++ batch ++ [])) other rest o in
      absurd (omega (arith, n, few, long, eight, length-append (size ++ batch) [], length-append size batch))
]

pub part_is : (head size batch : List ℕ) (left : Option (List ℕ)) → head ≡ 1 ∷ size → length size ≡ 8 → length batch < from_le_bytes w64 size → IsAtEnd left → IfSome left (λ rest. first_block (head ++ batch ++ rest) ≡ None)
part_is head size batch None is eight few end = tt
part_is head size batch (Some rest) is eight few end =
    ap (λ (l : List ℕ). first_block (head ++ batch ++ l)) end ∙ ap (λ (l : List ℕ). first_block (l ++ batch ++ [])) is ∙ cut_short size batch eight few

some_is : (a b c d : List ℕ) → block a b ≡ block c d → (a ≡ c) × (b ≡ d)
some_is a b c d e = let p : (a, b) ≡ (c, d) = cc in (ap (λ (q : List ℕ × List ℕ). q.0) p, ap (λ (q : List ℕ × List ℕ). q.1) p)

recovered_some : (file batch rest : List ℕ) → first_block file ≡ block batch rest → recovered file ≡ batch ∷ recovered rest
recovered_some file batch rest e = elim (first_view file) [
  | inl none ↦ absurd (cc (none, e))
  | inr opens ↦
      let (other, more, o) = opens in
      let (one, two) = some_is other more batch rest (sym (first_of file other more o) ∙ e) in
      recovered_opens file other more o ∙ ap (λ (l : List ℕ). l ∷ recovered more) one ∙ ap (λ (l : List ℕ). batch ∷ recovered l) two
]

pub next_is : (a b : Option (List ℕ)) (bytes batch : List ℕ) → Consumes a b bytes → ((rest : List ℕ) → first_block (bytes ++ rest) ≡ block batch rest) → IsNext a b batch
next_is None b bytes batch read found = tt
next_is (Some xs) None bytes batch read found = absurd read
next_is (Some xs) (Some ys) bytes batch read found = ap recovered read ∙ recovered_some (bytes ++ ys) batch ys (found ys)

pub last_is : (a b c : Option (List ℕ)) (bytes more : List ℕ) (n : ℕ) → Consumes a b bytes → IfSome b (λ rest. first_block (bytes ++ rest) ≡ None) → Consumes b c more → n ≡ length bytes + length more → IsAtEnd c → IsLast a n
last_is None b c bytes more n read none skipped long end = tt
last_is (Some xs) None c bytes more n read none skipped long end = absurd read
last_is (Some xs) (Some ys) None bytes more n read none skipped long end = absurd skipped
last_is (Some xs) (Some ys) (Some zs) bytes more n read none skipped long end =
    (ap recovered read ∙ recovered_none (bytes ++ ys) none, omega (arith, long, ap length read, ap length skipped, ap length end, length-append bytes ys, length-append more zs))
