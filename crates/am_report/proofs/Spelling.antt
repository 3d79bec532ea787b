-- Words are spelled by the sets of bytes that the code has.
use Rattle.std.proofs.Common.{◌≡◌, ℕ, zero, suc, ◌<◌, ◌≤◌, Bool, true, false, not, ◌&&◌, if◌then◌else◌, List, [], ◌∷◌, ◌++◌, refl, ap, ◌∙◌, ⊎_elim, inl, inr, arith}
use Rattle.std.proofs.lemmas.Bool.{and_parts, cases_eq, cases_lt}
use Rattle.std.proofs.lemmas.Bool.Decides.{nat_tests}
use Rattle.percent_encoding.specs.declared.ascii_set.AsciiSet.{AsciiSet}
use Rattle.percent_encoding.specs.AsciiSet.{should_percent_encode}
use Rattle.percent_encoding.specs.Percent.{percent_encode_byte, percent_encode}
use Rattle.am_report.specs.declared.words.TheConstants.{SPELLED, SPELLED_AT_END, SPELLED_IN_LIST}
use Rattle.am_report.specs.Words.{is_plain, is_plain_at_end, is_plain_in_list, spelled}

-- ---- the sets, byte by byte

all_below : (ℕ → Bool) → ℕ → Bool
all_below test zero = true
all_below test (suc n) = test n && all_below test n

checked : (test : ℕ → Bool) (n : ℕ) → all_below test n ≡ true → (k : ℕ) → k < n → test k ≡ true
unfolding all_below
checked test zero all k below = absurd (omega arith)
checked test (suc n) all k below =
    ⊎_elim (λ last. rw last (and_parts _ _ all).0) (λ other. checked test n (and_parts _ _ all).1 k (omega arith)) (cases_eq k n)

-- a byte is spelled exactly where it isn't plain
is_other : AsciiSet → (ℕ → Bool) → ℕ → Bool
is_other set kept byte = if should_percent_encode set byte then not (kept byte) else kept byte

agree : (spells kept : Bool) → (if spells then not kept else kept) ≡ true → spells ≡ not kept
agree true true is = absurd cc
agree true false is = refl
agree false true is = refl
agree false false is = absurd cc

-- the set spells what isn't kept
abbrev pub Spells : AsciiSet → (ℕ → Bool) → Type 0
Spells set kept = (byte : ℕ) → should_percent_encode set byte ≡ not (kept byte)

past_ascii : (set : AsciiSet) (byte : ℕ) → 128 ≤ byte → should_percent_encode set byte ≡ true
unfolding should_percent_encode
past_ascii set byte high = grind (arith, nat_tests)

past_plain : (byte : ℕ) → 128 ≤ byte → is_plain byte ≡ false
past_plain byte high = grind (arith, nat_tests)

past_plain_at_end : (byte : ℕ) → 128 ≤ byte → is_plain_at_end byte ≡ false
past_plain_at_end byte high = grind (arith, nat_tests)

pub spells_plain : Spells SPELLED is_plain
unfolding all_below is_other should_percent_encode
spells_plain byte =
    elim (cases_lt byte 128) [
      | inl low ↦ agree _ _ (checked (is_other SPELLED is_plain) 128 refl byte low)
      | inr high ↦ past_ascii SPELLED byte high ∙ rw (past_plain byte high) refl
    ]

pub spells_plain_in_list : Spells SPELLED_IN_LIST is_plain_in_list
unfolding all_below is_other should_percent_encode
spells_plain_in_list byte =
    elim (cases_lt byte 128) [
      | inl low ↦ agree _ _ (checked (is_other SPELLED_IN_LIST is_plain_in_list) 128 refl byte low)
      | inr high ↦ past_ascii SPELLED_IN_LIST byte high ∙ rw (past_plain byte high) refl
    ]

pub spells_plain_at_end : Spells SPELLED_AT_END is_plain_at_end
unfolding all_below is_other should_percent_encode
spells_plain_at_end byte =
    elim (cases_lt byte 128) [
      | inl low ↦ agree _ _ (checked (is_other SPELLED_AT_END is_plain_at_end) 128 refl byte low)
      | inr high ↦ past_ascii SPELLED_AT_END byte high ∙ rw (past_plain_at_end byte high) refl
    ]

-- so the encoding by the set is the spelling
one_more : (spells kept : Bool) (byte : ℕ) (encoded rest : List ℕ) → spells ≡ not kept →
    (if spells then encoded else byte ∷ []) ++ rest ≡ (if kept then byte ∷ [] else encoded) ++ rest
one_more true true byte encoded rest is = absurd cc
one_more true false byte encoded rest is = refl
one_more false true byte encoded rest is = refl
one_more false false byte encoded rest is = absurd cc

pub encoded_is_spelled : (set : AsciiSet) (kept : ℕ → Bool) → Spells set kept → (text : List ℕ) → percent_encode set text ≡ spelled kept text
unfolding percent_encode
encoded_is_spelled set kept spells [] = refl
encoded_is_spelled set kept spells (byte ∷ text) =
    ap (λ rest. (if should_percent_encode set byte then percent_encode_byte byte else byte ∷ []) ++ rest) (encoded_is_spelled set kept spells text)
    ∙ one_more (should_percent_encode set byte) (kept byte) byte (percent_encode_byte byte) (spelled kept text) (spells byte)
