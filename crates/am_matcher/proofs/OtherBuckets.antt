-- A silence of another bucket than the labels' has no pattern, and a matcher that the labels don't meet.
use Rattle.std.proofs.Common.{◌≡◌, ◌≢◌, ℕ, ◌==◌, Bool, true, false, not, List, [], length, map, reverse, Option, Some, None, All, Contains, find, bytes_eq, if◌then◌else◌, refl, sym, ap, ap₂, ◌∙◌, true≢false}
use Rattle.std.specs.List.{list_any}
use Rattle.std.specs.Option.{option_map_or}
use Rattle.std.proofs.lemmas.List.Elements.{All-weaker}
use Rattle.std.proofs.lemmas.List.Sorted.{Contains-permutation, IsPermutation-reverse, IsPermutation-sym}
use Rattle.std.proofs.lemmas.Slice.Eq.{bytes_eq-Decides}
use Rattle.am_silence.specs.declared.matcher.Matcher.{Matcher}
use Rattle.am_silence.specs.declared.matcher.MatcherKind.{MatcherKind}
use Rattle.am_silence.specs.declared.matcher.MatcherKind.TheVariants as kinds
use Rattle.am_silence.specs.Kinds.{is_regexp}
use Rattle.am_silence.specs.Matchers.{writes_matcher, wants_label}
use Rattle.am_silence.specs.Mesh.{Mesh, bucket_matcher_of}
use Rattle.am_matcher.specs.declared.labels.Label.{Label}
use Rattle.am_matcher.specs.Buckets.{label_bucket, buckets_for, is_in}
use Rattle.am_matcher.specs.Labels.{last_named, value_in}
use Rattle.am_matcher.specs.declared.dialect.Dialect.{Dialect}
use Rattle.am_matcher.specs.Matching.{matches_value, match_all, IsSoundMatcher}
use Rattle.am_matcher.specs.Dialects.{AreMeant}
use Rattle.am_matcher.proofs.Meant.{plain_are_meant}
use Rattle.am_matcher.proofs.Members.{Contains-map, Contains-find, All-from_list_any, list_any-from_Contains, list_all-from_Contains, neither}

module _ (labels : List Label) where
  -- the labels' buckets, and not the empty one
  abbrev is_at_label : List ℕ → Bool
  is_at_label bucket = list_any (λ b. bytes_eq bucket b) (map label_bucket labels)

  module _ (name pattern : List ℕ) (some : not (length pattern == 0) ≡ true) (none : is_at_label (writes_matcher (record { kind = kinds.Equal; name = name; pattern = pattern })) ≡ false) where
    -- a label with the name and the pattern has the bucket
    named : (label : Label) → Contains labels label → label.name ≡ name → pattern ≡ label.value → ⊥
    named label member same value =
        let text = writes_matcher (record { kind = kinds.Equal; name = name; pattern = pattern }) in
        let is : text ≡ label_bucket label = ap₂ (λ n p. writes_matcher (record { kind = kinds.Equal; name = n; pattern = p })) (sym same) value in
        let there = list_any-from_Contains (λ b. bytes_eq text b) (map label_bucket labels) (label_bucket label) (Contains-map label_bucket labels label member) ((bytes_eq-Decides text (label_bucket label)).1 is) in
        true≢false (sym there ∙ none)

    by_label : (o : Option Label) → last_named (λ label. label.name) name labels ≡ o → pattern ≡ option_map_or (λ label. label.value) o [] → ⊥
    by_label None e value = true≢false (sym some ∙ ap (λ p. not (length p == 0)) value)
    by_label (Some label) e value =
        let found = Contains-find (λ l. bytes_eq l.name name) (reverse labels) label e in
        named label (Contains-permutation (reverse labels) labels label (IsPermutation-sym labels (reverse labels) (IsPermutation-reverse labels)) found.0) ((bytes_eq-Decides label.name name).0 found.1) value

    other_text : (b : Bool) → bytes_eq pattern (value_in labels name) ≡ b → b ≡ false
    other_text true e = absurd (by_label (last_named (λ label. label.name) name labels) refl ((bytes_eq-Decides pattern (value_in labels name)).0 e))
    other_text false e = refl

  -- a matcher that wants a label, and has none of the labels' buckets, doesn't match
  unmet : (kind : MatcherKind) (name pattern : List ℕ) → wants_label (record { kind = kind; name = name; pattern = pattern }) ≡ true → is_at_label (writes_matcher (record { kind = kind; name = name; pattern = pattern })) ≡ false → matches_value (record { kind = kind; name = name; pattern = pattern }) (value_in labels name) ≡ false
  unmet kinds.Equal name pattern wants none = other_text name pattern wants none (bytes_eq pattern (value_in labels name)) refl
  unmet kinds.Regexp name pattern wants none = absurd (true≢false (sym wants))
  unmet kinds.NotEqual name pattern wants none = absurd (true≢false (sym wants))
  unmet kinds.NotRegexp name pattern wants none = absurd (true≢false (sym wants))

  module _ (dialect : Dialect) (ms : List Matcher) where
    wanted_by : (r : Bool) (m : Matcher) → (if r then None else find wants_label ms) ≡ Some m → (r ≡ false) × (find wants_label ms ≡ Some m)
    wanted_by true m e = absurd cc
    wanted_by false m e = (refl, e)

    -- where one is found, there are some
    found_among : (m : Matcher) → find wants_label ms ≡ Some m → ms ≢ []
    found_among m found nothing = let none : find wants_label [] ≡ Some m = ap (find wants_label) (sym nothing) ∙ found in absurd cc

    by_matcher : (o : Option Matcher) → bucket_matcher_of ms ≡ o → list_any (λ b. bytes_eq (option_map_or writes_matcher o []) b) (buckets_for labels) ≡ false → AreMeant dialect ms ms × All IsSoundMatcher ms × (match_all ms labels ≡ false) × (ms ≢ [])
    by_matcher None e none = absurd (true≢false none)
    by_matcher (Some m) e none =
        let wanted = wanted_by (list_any (λ x. is_regexp x.kind) ms) m e in
        let found = Contains-find wants_label ms m wanted.1 in
        let at_none = neither (bytes_eq (writes_matcher m) []) (is_at_label (writes_matcher m)) none in (
          plain_are_meant dialect ms wanted.0,
          All-weaker (λ x. is_regexp x.kind ≡ false) IsSoundMatcher (λ x plain regexp. absurd (true≢false (sym regexp ∙ plain))) ms (All-from_list_any (λ x. is_regexp x.kind) ms wanted.0),
          list_all-from_Contains (λ x. matches_value x (value_in labels x.name)) ms m found.0 (unmet m.kind m.name m.pattern found.1 at_none.1),
          found_among m wanted.1,
        )

  pub other_bucket : (dialect : Dialect) (m : Mesh) → is_in (buckets_for labels) m ≡ false → AreMeant dialect m.silence.matchers m.silence.matchers × All IsSoundMatcher m.silence.matchers × (match_all m.silence.matchers labels ≡ false) × (m.silence.matchers ≢ [])
  other_bucket dialect m none = by_matcher dialect m.silence.matchers (bucket_matcher_of m.silence.matchers) refl none
