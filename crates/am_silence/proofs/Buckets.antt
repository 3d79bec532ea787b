-- The place of the matchers' bucket in their encoding.
use Rattle.std.proofs.Common.{◌≡◌, ℕ, ◌+◌, ◌-◌, ◌<◌, ◌^◌, Bool, true, false, find, List, [], ◌∷◌, ◌++◌, length, length-append, append_assoc, drop, Option, Some, None, if◌then◌else◌, refl, sym, ap, subst, ◌∙◌, arith}
use Rattle.std.specs.Prelude.{MatchOption, IsSomeAnd}
use Rattle.std.specs.List.{list_any}
use Rattle.std.specs.Option.{option_map_or}
use Rattle.am_wire.specs.Varint.{shortest}
use Rattle.am_wire.specs.Writing.{writes_delimited}
use Rattle.am_wire.specs.Offsets.{Follows}
use Rattle.am_wire.proofs.Offsets.{follows_past}
use Rattle.am_silence.specs.declared.matcher.Matcher.{Matcher}
use Rattle.am_silence.specs.Kinds.{is_regexp}
use Rattle.am_silence.specs.Matchers.{writes_matcher, wants_label}
use Rattle.am_silence.specs.MatcherTexts.{writes_matchers}
use Rattle.am_silence.specs.Mesh.{bucket_of}
use Rattle.am_silence.proofs.MatcherTexts.{tag_2}

-- behind some bytes the text goes on with so many matchers
pub record GoesOn (whole rest : List Matcher) (at : ℕ) : Type 0 where
  pub before : List ℕ
  pub at_is : at ≡ length before
  pub is : writes_matchers whole ≡ before ++ writes_matchers rest

pub goes_on : (whole : List Matcher) → GoesOn whole whole 0
goes_on whole = record { before = []; at_is = refl; is = refl }

module _ (m : Matcher) (others : List Matcher) where
  -- the first matcher follows its tag
  first_follows : length (writes_matchers (m ∷ others)) < 2 ^ 64 → Follows 1 (writes_matcher m) (writes_matchers (m ∷ others))
  first_follows short =
      let own = writes_matcher m in
      let rest = writes_matchers others in
      let is : writes_matchers (m ∷ others) ≡ 18 ∷ (shortest (length own) ++ (own ++ rest)) =
      ap (λ (t : List ℕ). (t ++ (shortest (length own) ++ own)) ++ rest) tag_2 ∙ ap (λ (t : List ℕ). 18 ∷ t) (append_assoc (shortest (length own)) own rest) in
      let len = ap length is in
      let parts : length (shortest (length own) ++ (own ++ rest)) ≡ length (shortest (length own)) + (length own + length rest) =
      length-append (shortest (length own)) (own ++ rest) ∙ ap (λ (n : ℕ). length (shortest (length own)) + n) (length-append own rest) in
      record { rest = rest; within = omega (arith, len); short = omega (arith, len, parts, short); is = ap (drop 1) is }

module _ {whole rest others : List Matcher} {at : ℕ} {m : Matcher} (on : GoesOn whole rest at) (first : rest ≡ m ∷ others) where
  whole_is : writes_matchers whole ≡ on.before ++ writes_matchers (m ∷ others)
  whole_is = on.is ∙ ap (λ (ms : List Matcher). on.before ++ writes_matchers ms) first

  pub matcher_follows : length (writes_matchers whole) < 2 ^ 64 → Follows (at + 1) (writes_matcher m) (writes_matchers whole)
  matcher_follows short =
      let len = ap length whole_is ∙ length-append on.before (writes_matchers (m ∷ others)) in
      let behind = follows_past on.before (first_follows m others (omega (arith, len, short))) in
      let place : length on.before + 1 ≡ at + 1 = ap (λ (n : ℕ). n + 1) (sym on.at_is) in
      subst (λ (text : List ℕ). Follows (at + 1) (writes_matcher m) text) (sym whole_is)
      (subst (λ (n : ℕ). Follows n (writes_matcher m) (on.before ++ writes_matchers (m ∷ others))) place behind)

  pub goes_further : (next : ℕ) → next ≡ length (writes_matchers whole) - length (writes_matchers others) → GoesOn whole others next
  goes_further next e =
      let own = writes_delimited 2 (writes_matcher m) in
      let is : writes_matchers whole ≡ (on.before ++ own) ++ writes_matchers others = whole_is ∙ sym (append_assoc on.before own (writes_matchers others)) in
      let len = ap length is ∙ length-append (on.before ++ own) (writes_matchers others) in
      record { before = on.before ++ own; at_is = omega (arith, e, len); is = is }

  pub found_here : wants_label m ≡ true → find wants_label rest ≡ Some m
  found_here wants = ap (find wants_label) first ∙ ap (λ (b : Bool). if b then Some m else find wants_label others) wants

  pub found_later : wants_label m ≡ false → find wants_label rest ≡ find wants_label others
  found_later wants = ap (find wants_label) first ∙ ap (λ (b : Bool). if b then Some m else find wants_label others) wants

-- ---- the bucket
module _ (ms : List Matcher) where
  pub bucket_none : true ≡ list_any (λ m. is_regexp m.kind) ms → bucket_of ms ≡ []
  bucket_none some = ap (λ (b : Bool). option_map_or writes_matcher (if b then None else find wants_label ms) []) (sym some)

  bucket_first : false ≡ list_any (λ m. is_regexp m.kind) ms → bucket_of ms ≡ option_map_or writes_matcher (find wants_label ms) []
  bucket_first none = ap (λ (b : Bool). option_map_or writes_matcher (if b then None else find wants_label ms) []) (sym none)

  pub bucket_place : (place : Option ℕ) → false ≡ list_any (λ m. is_regexp m.kind) ms
      → MatchOption place (find wants_label ms ≡ None) (λ at. (0 < at) × IsSomeAnd (find wants_label ms) (λ m. Follows at (writes_matcher m) (writes_matchers ms)))
      → MatchOption place (bucket_of ms ≡ []) (λ at. (0 < at) × Follows at (bucket_of ms) (writes_matchers ms))
  bucket_place None none h = bucket_first none ∙ ap (λ (found : Option Matcher). option_map_or writes_matcher found []) h
  bucket_place (Some at) none h = (h.0, subst (λ (bucket : List ℕ). Follows at bucket (writes_matchers ms)) (sym (bucket_first none)) (of_found (find wants_label ms) h.1))
    where
      of_found : (found : Option Matcher) → IsSomeAnd found (λ m. Follows at (writes_matcher m) (writes_matchers ms)) → Follows at (option_map_or writes_matcher found []) (writes_matchers ms)
      of_found None h = absurd h
      of_found (Some m) h = h
