-- Matchers as a dialect means them, one after the other.
use Rattle.std.proofs.Common.{◌≡◌, ◌∙◌, ℕ, suc, ◌&&◌, ◌||◌, inl, inr, Bool, true, false, true≢false, List, [], ◌∷◌, All, Any, refl, sym, ap, subst, arith}
use Rattle.std.specs.Prelude.{if◌then◌else◌, MatchBool, Result, Ok, Err, IfOk, OnOk, chars, encode_utf8_all}
use Rattle.std.proofs.lemmas.List.Elements.{All-cons}
use Rattle.am_silence.specs.declared.matcher.Matcher.{Matcher}
use Rattle.am_silence.specs.declared.matcher.MatcherKind.{MatcherKind}
use Rattle.am_silence.specs.declared.plan.Verdict.{Verdict}
use Rattle.am_silence.specs.declared.plan.Verdict.TheVariants.{Fine, Bad, AllEmpty}
use Rattle.am_silence.specs.Kinds.{is_regexp}
use Rattle.am_matcher.specs.declared.dialect.Dialect.{Dialect}
use Rattle.am_matcher.specs.declared.dialect.Dialect.TheVariants.{Regex, Re2}
use Rattle.am_matcher.specs.declared.labels.Label.{Label}
use Rattle.am_matcher.specs.Labels.{value_in}
use Rattle.am_matcher.specs.Texts.{is_text}
use Rattle.am_matcher.specs.Patterns.{is_match, IsSound, IsBroken}
use Rattle.am_matcher.specs.Matching.{has_regexp, is_found_by, is_met, matches_value, match_all, IsSoundMatcher, IsBrokenMatcher, IsVerdict}
use Rattle.am_matcher.specs.Filters.{IsFilter}
use Rattle.am_matcher.specs.Re2.{Contents, IsTranslated, IsTranslation}
use Rattle.am_matcher.specs.Dialects.{IsMeaning, IsSoundIn, IsBrokenIn, IsAnswer, IsMeant, AreMeant, IsRefusedMatcher, DoesMatch, DoMatch, IsVerdictIn, IsFilterIn, is_label, are_labels, takes_names}
use Rattle.am_matcher.proofs.Re2Readings.{read_once}

-- ---- one meaning

written_once : (characters one other : List ℕ) → IsTranslated characters one → IsTranslated characters other → one ≡ other
written_once characters one other a b =
    a.written_is ∙ ap (λ (c : Contents). c.written) (read_once a.is_read b.is_read) ∙ sym b.written_is

translated_once : (pattern one other : List ℕ) → IsTranslation pattern one → IsTranslation pattern other → one ≡ other
translated_once pattern one other a b =
    a.encoded ∙ ap encode_utf8_all (written_once (chars pattern) a.written b.written a.is_translated b.is_translated) ∙ sym b.encoded

meaning_once : (dialect : Dialect) (pattern one other : List ℕ) → IsMeaning dialect pattern one → IsMeaning dialect pattern other → one ≡ other
meaning_once Regex pattern one other a b = a ∙ sym b
meaning_once Re2 pattern one other a b = translated_once pattern one other a b

pattern_once : (dialect : Dialect) (is : Bool) (pattern one other : List ℕ) → MatchBool is (IsMeaning dialect pattern one) (one ≡ pattern) → MatchBool is (IsMeaning dialect pattern other) (other ≡ pattern) → one ≡ other
pattern_once dialect true pattern one other a b = meaning_once dialect pattern one other a b
pattern_once dialect false pattern one other a b = a ∙ sym b

same_matcher : (a b : Matcher) → a.kind ≡ b.kind → a.name ≡ b.name → a.pattern ≡ b.pattern → a ≡ b
same_matcher a b kind name pattern = λ i. record { kind = kind i; name = name i; pattern = pattern i }

pub matcher_once : (dialect : Dialect) (m one other : Matcher) → IsMeant dialect m one → IsMeant dialect m other → one ≡ other
matcher_once dialect m one other a b =
    same_matcher one other (a.kind ∙ sym b.kind) (a.name ∙ sym b.name) (pattern_once dialect (is_regexp m.kind) m.pattern one.pattern other.pattern a.pattern b.pattern)

-- matchers are meant in one way
pub meant_once : (dialect : Dialect) (matchers one other : List Matcher) → AreMeant dialect matchers one → AreMeant dialect matchers other → one ≡ other
meant_once dialect [] [] [] a b = refl
meant_once dialect [] [] (y ∷ other) a b = absurd b
meant_once dialect [] (x ∷ one) other a b = absurd a
meant_once dialect (m ∷ matchers) [] other a b = absurd a
meant_once dialect (m ∷ matchers) (x ∷ one) [] a b = absurd b
meant_once dialect (m ∷ matchers) (x ∷ one) (y ∷ other) a b = λ i. matcher_once dialect m x y a.0 b.0 i ∷ meant_once dialect matchers one other a.1 b.1 i

-- ---- matchers that are meant as they stand

itself_by : (dialect : Dialect) (pattern : List ℕ) (is : Bool) → (is ≡ true → IsMeaning dialect pattern pattern) → MatchBool is (IsMeaning dialect pattern pattern) (pattern ≡ pattern)
itself_by dialect pattern true does = does refl
itself_by dialect pattern false does = refl

itself : (dialect : Dialect) (m : Matcher) → (is_regexp m.kind ≡ true → IsMeaning dialect m.pattern m.pattern) → IsMeant dialect m m
itself dialect m does = record { kind = refl; name = refl; pattern = itself_by dialect m.pattern (is_regexp m.kind) does }

either_is_none : (here later : Bool) → (here || later) ≡ false → (here ≡ false) × (later ≡ false)
either_is_none true later e = absurd (true≢false e)
either_is_none false later e = (refl, e)

-- those without a regular expression
pub plain_are_meant : (dialect : Dialect) (matchers : List Matcher) → has_regexp matchers ≡ false → AreMeant dialect matchers matchers
plain_are_meant dialect [] none = tt
plain_are_meant dialect (m ∷ matchers) none =
    let both = either_is_none (is_regexp m.kind) (has_regexp matchers) none in
    (itself dialect m (λ is. absurd (true≢false (sym is ∙ both.0))), plain_are_meant dialect matchers both.1)

-- those of `regex`
regex_are_meant : (matchers : List Matcher) → AreMeant Regex matchers matchers
regex_are_meant [] = tt
regex_are_meant (m ∷ matchers) = (itself Regex m (λ is. refl), regex_are_meant matchers)

pub meant_itself : (matchers meant : List Matcher) → AreMeant Regex matchers meant → meant ≡ matchers
meant_itself matchers meant all = meant_once Regex matchers meant matchers all (regex_are_meant matchers)

matcher_itself : (m meant : Matcher) → IsMeant Regex m meant → meant ≡ m
matcher_itself m meant is = matcher_once Regex m meant m is (itself Regex m (λ is. refl))

pub sound_itself : (pattern : List ℕ) → IsSoundIn Regex pattern → IsSound pattern
sound_itself pattern (meant, is, sound) = subst IsSound is sound

pub broken_itself : (pattern : List ℕ) → IsBrokenIn Regex pattern → IsBroken pattern
broken_itself pattern (inl none) = absurd (none (pattern, refl))
broken_itself pattern (inr (meant, is, broken)) = subst IsBroken is broken

-- and a broken pattern of `regex` is broken in its dialect
pub broken_in_regex : (pattern : List ℕ) → IsBroken pattern → IsBrokenIn Regex pattern
broken_in_regex pattern broken = inr (pattern, refl, broken)

pub refused_itself : (m : Matcher) → IsRefusedMatcher Regex m → IsBrokenMatcher m
refused_itself m (is, broken) = (is, broken_itself m.pattern broken)

pub any_refused_itself : (matchers : List Matcher) → Any (IsRefusedMatcher Regex) matchers → Any IsBrokenMatcher matchers
any_refused_itself matchers (k, m, within, is, refused) = (k, m, within, is, refused_itself m refused)

pub match_itself : (m : Matcher) (labels : List Label) (told : Bool) → DoesMatch Regex m labels told → (told ≡ matches_value m (value_in labels m.name)) × IsSoundMatcher m
match_itself m labels told does =
    let is = matcher_itself m does.meant does.is_meant in
    (does.answer ∙ ap (λ (n : Matcher). matches_value n (value_in labels n.name)) is, subst IsSoundMatcher is does.sound)

pub filter_itself : (bytes : List ℕ) (m : Matcher) → IsFilterIn Regex bytes m → IsFilter bytes m
filter_itself bytes m filter = subst (IsFilter bytes) (sym (matcher_itself filter.written m filter.is_meant)) filter.is_filter

pub compiled_itself : (m meant : Matcher) → IsMeant Regex m meant → meant ≡ m
compiled_itself = matcher_itself

-- a verdict in the dialect of `regex` is the verdict
pub verdict_itself : (matchers : List Matcher) (verdict : Verdict) → IsVerdictIn Regex matchers verdict → IsVerdict matchers verdict
verdict_itself matchers Bad (inl refused) = any_refused_itself matchers refused
verdict_itself matchers Bad (inr names) = absurd (true≢false names)
verdict_itself matchers AllEmpty (names, meant, all, verdict) = subst (λ (ms : List Matcher). IsVerdict ms AllEmpty) (meant_itself matchers meant all) verdict
verdict_itself matchers Fine (names, meant, all, verdict) = subst (λ (ms : List Matcher). IsVerdict ms Fine) (meant_itself matchers meant all) verdict

-- ---- one matcher more

and_next : (before here rest : Bool) → ((before && here) && rest) ≡ (before && (here && rest))
and_next true here rest = refl
and_next false here rest = refl

module _ {left others : List Matcher} {m : Matcher} (first : left ≡ m ∷ others) where
  pub are_labels-first : (before here : Bool) → here ≡ is_label m.name → ((before && here) && are_labels others) ≡ (before && are_labels left)
  are_labels-first before here is =
      and_next before here (are_labels others)
      ∙ ap (λ (b : Bool). before && (b && are_labels others)) is
      ∙ ap (λ (ms : List Matcher). before && are_labels ms) (sym first)

  pub refused-first : (dialect : Dialect) → IsRefusedMatcher dialect m → Any (IsRefusedMatcher dialect) left
  refused-first dialect refused = subst (Any (IsRefusedMatcher dialect)) (sym first) (0, m, omega arith, refl, refused)

  pub refused-later : (dialect : Dialect) → Any (IsRefusedMatcher dialect) others → Any (IsRefusedMatcher dialect) left
  refused-later dialect (k, x, within, is, refused) = subst (Any (IsRefusedMatcher dialect)) (sym first) (suc k, x, omega (arith, within), is, refused)

-- those that are left decide
pub record Decides (dialect : Dialect) (matchers left : List Matcher) (labels : List Label) (so_far : Bool) : Type 0 where
  pub decides : (meant : List Matcher) → AreMeant dialect left meant → All IsSoundMatcher meant → DoMatch dialect matchers labels (so_far && match_all meant labels)

pub decide_first : (dialect : Dialect) (matchers : List Matcher) (labels : List Label) → Decides dialect matchers matchers labels true
decide_first dialect matchers labels = record {
  decides = λ meant all sound. record { meant = meant; are_meant = all; sound = sound; answer = refl };
}

pub decide_next : (dialect : Dialect) (matchers left others : List Matcher) (m : Matcher) (labels : List Label) (so_far told : Bool) → left ≡ m ∷ others → DoesMatch dialect m labels told →
    Decides dialect matchers left labels so_far → Decides dialect matchers others labels (so_far && told)
decide_next dialect matchers left others m labels so_far told first does before = record {
  decides = λ meant all sound.
      let found = before.decides (does.meant ∷ meant) (subst (λ (ms : List Matcher). AreMeant dialect ms (does.meant ∷ meant)) (sym first) (does.is_meant, all))
      (All-cons IsSoundMatcher does.meant meant does.sound sound) in record {
        meant = found.meant;
        are_meant = found.are_meant;
        sound = found.sound;
        answer =
            and_next so_far told (match_all meant labels)
            ∙ ap (λ (b : Bool). so_far && (b && match_all meant labels)) does.answer
            ∙ found.answer;
      };
}

and_true : (b : Bool) → b ≡ (b && true)
and_true true = refl
and_true false = refl

pub decide_last : (dialect : Dialect) (matchers left : List Matcher) (labels : List Label) (so_far : Bool) → left ≡ [] → Decides dialect matchers left labels so_far → DoMatch dialect matchers labels so_far
decide_last dialect matchers left labels so_far none before =
    subst (DoMatch dialect matchers labels) (sym (and_true so_far))
    (before.decides [] (subst (λ (ms : List Matcher). AreMeant dialect ms []) (sym none) tt) (λ k d within. absurd (omega (arith, within))))

-- ---- verdicts by the empty text

pub verdict_all_empty : (dialect : Dialect) (matchers : List Matcher) → takes_names dialect matchers ≡ true → DoMatch dialect matchers [] true → IsVerdictIn dialect matchers AllEmpty
verdict_all_empty dialect matchers names does = (names, does.meant, does.are_meant, (does.sound, sym does.answer))

pub verdict_fine : (dialect : Dialect) (matchers : List Matcher) → takes_names dialect matchers ≡ true → DoMatch dialect matchers [] false → IsVerdictIn dialect matchers Fine
verdict_fine dialect matchers names does = (names, does.meant, does.are_meant, (does.sound, sym does.answer))

-- ---- what is compiled

-- a matcher of `regex` that was compiled is sound
pub sound_compiled : {E : Type 0} (m : Matcher) (r : Result Matcher E) → IfOk r (IsMeant Regex m) → IfOk r IsSoundMatcher → OnOk r (IsSoundMatcher m)
sound_compiled m (Ok meant) is sound = subst IsSoundMatcher (matcher_itself m meant is) sound
sound_compiled m (Err e) is sound = tt

-- ---- what is judged

-- the matcher with another pattern
abbrev with_pattern : Matcher → List ℕ → Matcher
with_pattern m pattern = record m { pattern = pattern }

regexp_meant : (dialect : Dialect) (m : Matcher) (meant : List ℕ) (is : Bool) → is ≡ true → IsMeaning dialect m.pattern meant → MatchBool is (IsMeaning dialect m.pattern meant) (meant ≡ m.pattern)
regexp_meant dialect m meant true e does = does
regexp_meant dialect m meant false e does = absurd (true≢false (sym e))

-- a matcher with the pattern that a regular expression stands for is meant
pub regexp_is_meant : (dialect : Dialect) (m : Matcher) (meant : List ℕ) → is_regexp m.kind ≡ true → IsMeaning dialect m.pattern meant → IsMeant dialect m (with_pattern m meant)
regexp_is_meant dialect m meant is does = record { kind = refl; name = refl; pattern = regexp_meant dialect m meant (is_regexp m.kind) is does }

-- one without a regular expression is meant as it stands
pub plain_is_meant : (dialect : Dialect) (m : Matcher) → is_regexp m.kind ≡ false → IsMeant dialect m m
plain_is_meant dialect m none = itself dialect m (λ is. absurd (true≢false (sym is ∙ none)))

-- what a kind makes of whether its pattern is found
abbrev pub Wants : MatcherKind → Bool → Bool → Type 0
Wants kind found told = (pattern value : List ℕ) → found ≡ is_found_by kind pattern value → told ≡ is_met kind pattern value

pub regexp_matches : (dialect : Dialect) (m : Matcher) (labels : List Label) (value : List ℕ) (found told : Bool) → is_regexp m.kind ≡ true → value ≡ value_in labels m.name →
    IsAnswer dialect m.pattern value found → Wants m.kind found told → DoesMatch dialect m labels told
regexp_matches dialect m labels value found told is value_is a wants =
    let by : is_found_by m.kind a.meant value ≡ is_match a.meant value = ap (λ (b : Bool). if b then is_match a.meant value else is_text a.meant value) is in record {
      meant = with_pattern m a.meant;
      is_meant = regexp_is_meant dialect m a.meant is a.is_meant;
      sound = λ _. a.sound;
      answer = wants a.meant value (a.answer ∙ sym by) ∙ ap (λ (v : List ℕ). is_met m.kind a.meant v) value_is;
    }

pub text_matches : (dialect : Dialect) (m : Matcher) (labels : List Label) (value : List ℕ) (found told : Bool) → is_regexp m.kind ≡ false → value ≡ value_in labels m.name →
    found ≡ is_text m.pattern value → Wants m.kind found told → DoesMatch dialect m labels told
text_matches dialect m labels value found told none value_is found_is wants =
    let by : is_found_by m.kind m.pattern value ≡ is_text m.pattern value = ap (λ (b : Bool). if b then is_match m.pattern value else is_text m.pattern value) none in record {
      meant = m;
      is_meant = plain_is_meant dialect m none;
      sound = λ is. absurd (true≢false (sym is ∙ none));
      answer = wants m.pattern value (found_is ∙ sym by) ∙ ap (λ (v : List ℕ). is_met m.kind m.pattern v) value_is;
    }
