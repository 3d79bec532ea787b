-- A word is read as its text, and what its bytes are.
use Rattle.std.proofs.Common.{◌≡◌, ◌≢◌, ℕ, ◌<◌, ◌≤◌, Bool, true, false, if◌then◌else◌, lit≤, codes, List, [], ◌∷◌, ◌++◌, All, refl, sym, ap, ◌∙◌, inl, inr, arith}
use Rattle.std.specs.Str.{bytes_eq}
use Rattle.std.proofs.lemmas.Bool.{both_ways, cases_Bool}
use Rattle.std.proofs.lemmas.Bool.Decides.{nat_tests}
use Rattle.std.proofs.lemmas.List.Elements.{All-nil, All-cons, All-head, All-tail, All-append, All-weaker}
use Rattle.std.proofs.lemmas.Slice.Eq.{bytes_eq-Decides}
use Rattle.percent_encoding.specs.Percent.{percent_encode_byte, percent_decode}
use Rattle.percent_encoding.proofs.OnLiterals.{percent_encoding_on_literals}
use Rattle.percent_encoding.proofs.PercentLemmas.{IsEscapeByte, All-percent_encode_byte, percent_decode-nil, percent_decode_not_percent, percent_decode-percent_encode_byte}
use Rattle.am_report.specs.Words.{is_plain, is_plain_in_list, spelled, word_by, text_of_word}
use Rattle.am_report.specs.WordLaws.{AreBytes, AreGlyphs, HasNoComma}

-- ---- reading

module _ (kept : ℕ → Bool) (own : kept 37 ≡ false) where
  one_read : (keeps : Bool) (byte : ℕ) (rest : List ℕ) → byte < 256 → (byte ≡ 37 → keeps ≡ false)
      → percent_decode ((if keeps then byte ∷ [] else percent_encode_byte byte) ++ rest) ≡ byte ∷ percent_decode rest
  one_read true byte rest small percent = percent_decode_not_percent byte rest (λ is. both_ways true (percent is) refl)
  one_read false byte rest small percent = percent_decode-percent_encode_byte byte rest small

  spelled_read : (text : List ℕ) → AreBytes text → percent_decode (spelled kept text) ≡ text
  spelled_read [] bytes = percent_decode-nil
  spelled_read (byte ∷ text) bytes =
      one_read (kept byte) byte (spelled kept text) (All-head (λ b. b < 256) byte text bytes) (λ is. rw is own)
      ∙ ap (λ rest. byte ∷ rest) (spelled_read text (All-tail (λ b. b < 256) byte text bytes))

  -- only the text `-` would be spelled `-`
  not_a_dash : (text : List ℕ) → AreBytes text → bytes_eq text (codes "-") ≡ false → bytes_eq (spelled kept text) (codes "-") ≡ false
  unfolding percent_encoding_on_literals
  not_a_dash text bytes other =
      elim (cases_Bool (bytes_eq (spelled kept text) (codes "-"))) [
        | inl is ↦
            let word = (bytes_eq-Decides (spelled kept text) (codes "-")).0 is in
            let same : text ≡ codes "-" = sym (spelled_read text bytes) ∙ ap percent_decode word in
            absurd (both_ways _ (rw same at other) refl)
        | inr different ↦ different
      ]

  pub word_read : (text : List ℕ) → AreBytes text → text_of_word (word_by kept text) ≡ text
  unfolding text_of_word percent_encoding_on_literals
  word_read [] bytes = refl
  word_read (byte ∷ text) bytes =
      elim (cases_Bool (bytes_eq (byte ∷ text) (codes "-"))) [
        | inl is ↦ rw is (sym ((bytes_eq-Decides (byte ∷ text) (codes "-")).0 is))
        | inr different ↦ rw (different, not_a_dash (byte ∷ text) bytes different) (spelled_read (byte ∷ text) bytes)
      ]

-- ---- bytes

module _ (P : ℕ → Type 0) (kept : ℕ → Bool) (plain : (byte : ℕ) → kept byte ≡ true → P byte) (escape : (byte : ℕ) → IsEscapeByte byte → P byte) where
  one_all : (keeps : Bool) (byte : ℕ) → (keeps ≡ true → P byte) → All P (if keeps then byte ∷ [] else percent_encode_byte byte)
  one_all true byte holds = All-cons P byte [] (holds refl) (All-nil P)
  one_all false byte holds = All-weaker IsEscapeByte P escape (percent_encode_byte byte) (All-percent_encode_byte byte)

  spelled_all : (text : List ℕ) → All P (spelled kept text)
  spelled_all [] = All-nil P
  spelled_all (byte ∷ text) = All-append P _ _ (one_all (kept byte) byte (plain byte)) (spelled_all text)

  pub word_all : P 45 → All P (codes "%2D") → (text : List ℕ) → All P (word_by kept text)
  word_all dash written [] = All-cons P 45 [] dash (All-nil P)
  word_all dash written (byte ∷ text) =
      elim (cases_Bool (bytes_eq (byte ∷ text) (codes "-"))) [
        | inl is ↦ rw is written
        | inr different ↦ rw different (spelled_all (byte ∷ text))
      ]

-- ---- glyphs and commas

abbrev Glyph : ℕ → Type 0
Glyph byte = (33 ≤ byte) × (byte ≤ 126)

abbrev NoComma : ℕ → Type 0
NoComma byte = byte ≢ 44

three : (P : ℕ → Type 0) → P 37 → P 50 → P 68 → All P (codes "%2D")
three P a b c = All-cons P 37 (50 ∷ 68 ∷ []) a (All-cons P 50 (68 ∷ []) b (All-cons P 68 [] c (All-nil P)))

pub glyphs : (text : List ℕ) → AreGlyphs (word_by is_plain text)
glyphs = word_all Glyph is_plain (λ byte is. grind (arith, nat_tests)) (λ byte is. grind arith) (lit≤ tt, lit≤ tt)
    (three Glyph (lit≤ tt, lit≤ tt) (lit≤ tt, lit≤ tt) (lit≤ tt, lit≤ tt))

pub listed_glyphs : (text : List ℕ) → AreGlyphs (word_by is_plain_in_list text)
listed_glyphs = word_all Glyph is_plain_in_list (λ byte is. grind (arith, nat_tests)) (λ byte is. grind arith) (lit≤ tt, lit≤ tt)
    (three Glyph (lit≤ tt, lit≤ tt) (lit≤ tt, lit≤ tt) (lit≤ tt, lit≤ tt))

pub no_comma : (text : List ℕ) → HasNoComma (word_by is_plain_in_list text)
no_comma = word_all NoComma is_plain_in_list (λ byte is. grind (arith, nat_tests)) (λ byte is. grind arith) (λ e. omega (arith, e))
    (three NoComma (λ e. omega (arith, e)) (λ e. omega (arith, e)) (λ e. omega (arith, e)))
