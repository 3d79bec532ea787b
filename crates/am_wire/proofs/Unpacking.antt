-- Numbers that are packed one after the other.
use Rattle.std.proofs.Common.{◌≡◌, ℕ, zero, suc, ◌+◌, ◌-◌, ◌<◌, ◌≤◌, ◌==◌, arith, true, false, eqb, append-nil, length-append, List, [], ◌∷◌, ◌++◌, length, drop, Some, None, Result, Ok, Err, refl, sym, ap, ◌∙◌, append_assoc}
use Rattle.std.specs.List.{flat_map}
use Rattle.std.proofs.lemmas.Bool.{eqb-true, ne_eqb}
use Rattle.std.proofs.lemmas.Bool.Decides.{nat_tests}
use Rattle.am_wire.specs.declared.error.WireError.{WireError}
use Rattle.am_wire.specs.Varint.{varint_at, shortest}
use Rattle.am_wire.specs.Fields.{pieces, next_piece}
use Rattle.am_wire.specs.Reading.{until_fault, first_fault, unpacked}
use Rattle.am_wire.specs.RoundTrip.Pieces.{pieces-first}
use Rattle.am_wire.specs.RoundTrip.Varints.{shortest_filled}

abbrev one_number : ℕ → ℕ → List ℕ → Result (ℕ × ℕ) WireError
one_number tag at bytes = varint_at tag bytes

-- where the numbers stand makes no difference
same_next : (tag p q : ℕ) (bytes : List ℕ) → ((skip : ℕ) → pieces (one_number tag) skip p bytes ≡ pieces (one_number tag) skip q bytes)
    → (r : Result (ℕ × ℕ) WireError) → next_piece (λ skip. pieces (one_number tag) skip p bytes) r ≡ next_piece (λ skip. pieces (one_number tag) skip q bytes) r
same_next tag p q bytes same (Ok x) = ap (λ (l : List (Result ℕ WireError)). Ok x.0 ∷ l) (same (x.1 - 1))
same_next tag p q bytes same (Err e) = refl

anywhere : (tag skip p q : ℕ) (bytes : List ℕ) → pieces (one_number tag) skip p bytes ≡ pieces (one_number tag) skip q bytes
unfolding pieces
anywhere tag skip p q [] = refl
anywhere tag zero p q (b ∷ bytes) = same_next tag (p + 1) (q + 1) bytes (λ skip. anywhere tag skip (p + 1) (q + 1) bytes) (varint_at tag (b ∷ bytes))
anywhere tag (suc skip) p q (b ∷ bytes) = anywhere tag skip (p + 1) (q + 1) bytes

-- the first number, and the others
pub unpacked-first : (tag n len : ℕ) (bytes : List ℕ) → varint_at tag bytes ≡ Ok (n, len) → 0 < len → len ≤ length bytes → unpacked tag bytes ≡ Ok n ∷ unpacked tag (drop len bytes)
unpacked-first tag n len bytes e pos le =
    pieces-first (one_number tag) 0 bytes (n, len) e pos le ∙ ap (λ (l : List (Result ℕ WireError)). Ok n ∷ l) (anywhere tag 0 (0 + len) 0 (drop len bytes))

pub unpacked-fault : (tag : ℕ) (e : WireError) (bytes : List ℕ) → varint_at tag bytes ≡ Err e → false ≡ eqb (length bytes) 0 → first_fault (unpacked tag bytes) ≡ Some e
unfolding pieces
unpacked-fault tag e [] h filled = absurd cc
unpacked-fault tag e (b ∷ bytes) h filled = rw h refl

unpacked-none : (tag : ℕ) (bytes : List ℕ) → true ≡ eqb (length bytes) 0 → unpacked tag bytes ≡ []
unfolding pieces
unpacked-none tag [] h = refl
unpacked-none tag (b ∷ bytes) h = let none : suc (length bytes) ≡ 0 = eqb-true _ _ (sym h) in absurd (omega (arith, none))

-- what a loop has put behind `start`, and what is left of the bytes
pub record HasUnpacked (tag : ℕ) (start now bytes rest : List ℕ) : Type 0 where
  pub held : now ++ until_fault (unpacked tag rest) ≡ start ++ until_fault (unpacked tag bytes)
  pub clean : first_fault (unpacked tag rest) ≡ first_fault (unpacked tag bytes)

module _ (tag : ℕ) (start now bytes rest : List ℕ) (h : HasUnpacked tag start now bytes rest) where
  pub one_more : (n len : ℕ) → varint_at tag rest ≡ Ok (n, len) → 0 < len → len ≤ length rest → HasUnpacked tag start (now ++ n ∷ []) bytes (drop len rest)
  one_more n len e pos le =
      let first = unpacked-first tag n len rest e pos le in
      record {
        held = append_assoc now (n ∷ []) (until_fault (unpacked tag (drop len rest))) ∙ ap (λ (l : List (Result ℕ WireError)). now ++ until_fault l) (sym first) ∙ h.held;
        clean = sym (ap first_fault first) ∙ h.clean;
      }

  pub no_more-held : true ≡ eqb (length rest) 0 → now ≡ start ++ until_fault (unpacked tag bytes)
  no_more-held none = sym (append-nil now) ∙ ap (λ (l : List (Result ℕ WireError)). now ++ until_fault l) (sym (unpacked-none tag rest none)) ∙ h.held

  pub no_more-clean : true ≡ eqb (length rest) 0 → first_fault (unpacked tag bytes) ≡ None
  no_more-clean none = sym h.clean ∙ ap first_fault (unpacked-none tag rest none)

-- numbers that are there have a text
pub packed_filled : (ns : List ℕ) → false ≡ eqb (length ns) 0 → eqb (length (flat_map shortest ns)) 0 ≡ false
packed_filled [] filled = absurd cc
packed_filled (n ∷ ns) filled =
    let long : 0 < length (flat_map shortest (n ∷ ns)) = omega (arith, shortest_filled n, length-append (shortest n) (flat_map shortest ns)) in
    ne_eqb _ _ (λ none. absurd (omega (arith, long, none)))

more_than_none : (n : ℕ) → eqb (suc n) 0 ≡ false
more_than_none n = grind (arith, nat_tests)

pub none_packed : (ns : List ℕ) → true ≡ eqb (length ns) 0 → ns ≡ []
none_packed [] empty = refl
none_packed (n ∷ ns) empty = absurd (cc (more_than_none (length ns)))

-- and those that are not there have none
pub none_alike : (ns : List ℕ) → (length (flat_map shortest ns) == 0) ≡ (length ns == 0)
none_alike [] = refl
none_alike (n ∷ ns) = packed_filled (n ∷ ns) (sym (more_than_none (length ns))) ∙ sym (more_than_none (length ns))
