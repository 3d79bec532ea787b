-- Tests of the texts of patterns.
use Rattle.std.proofs.Common.{◌≡◌, ℕ, Bool, true, false, ◌&&◌, ◌||◌, List, ◌∷◌, get_or, filter, refl, subst}
use Rattle.std.specs.List.{list_any}
use Rattle.std.proofs.lemmas.List.Elements.{All-head, All-tail, All-filter}
use Rattle.std.proofs.lemmas.List.Folds.{list_any_at}
use Rattle.std.proofs.lemmas.Slice.Eq.{bytes_eq-Decides}
use Rattle.am_silence.specs.declared.matcher.Matcher.{Matcher}
use Rattle.am_silence.specs.Kinds.{is_regexp}
use Rattle.am_silence.specs.Mesh.{Mesh}
use Rattle.am_matcher.specs.Texts.{is_text}
use Rattle.am_matcher.specs.Sizes.{CompiledPattern}
use Rattle.am_matcher.specs.Uses.{has_pattern, is_used_by, is_among, TextsPass, PatternsPass, SilencesPass}

text_itself : (text : List ℕ) → is_text text text ≡ true
text_itself text = (bytes_eq-Decides text text).1 refl

both : (a b : Bool) → a ≡ true → b ≡ true → (a && b) ≡ true
both true b ea eb = eb
both false b ea eb = absurd cc

-- a regular expression has its own text
has_own : (m : Matcher) → is_regexp m.kind ≡ true → has_pattern m.pattern m ≡ true
has_own m is = both (is_regexp m.kind) (is_text m.pattern m.pattern) is (text_itself m.pattern)

-- the silences have all their patterns
pub used_by_themselves : (held : List Mesh) → SilencesPass (is_used_by held) held
used_by_themselves held = λ k d within. λ j e inside. λ is.
    let silence = get_or held k d in
    let m = get_or silence.silence.matchers j e in
    list_any_at (λ v. list_any (has_pattern m.pattern) v.silence.matchers) held k d within
    (list_any_at (has_pattern m.pattern) silence.silence.matchers j e inside (has_own m is))

-- patterns are among themselves
pub among_themselves : (patterns : List CompiledPattern) → TextsPass (is_among patterns) patterns
among_themselves patterns = λ k d within. list_any_at (λ p. is_text p.text (get_or patterns k d).text) patterns k d within (text_itself (get_or patterns k d).text)

-- one of two tests is enough
first_of_two : (a b : Bool) → a ≡ true → (a || b) ≡ true
first_of_two true b e = refl
first_of_two false b e = absurd cc

second_of_two : (a b : Bool) → b ≡ true → (a || b) ≡ true
second_of_two true b e = refl
second_of_two false b e = e

pub texts_first : (one other : List ℕ → Bool) (patterns : List CompiledPattern) → TextsPass one patterns → TextsPass (λ text. one text || other text) patterns
texts_first one other patterns pass = λ k d within. first_of_two (one (get_or patterns k d).text) (other (get_or patterns k d).text) (pass k d within)

pub silences_second : (one other : List ℕ → Bool) (silences : List Mesh) → SilencesPass other silences → SilencesPass (λ text. one text || other text) silences
silences_second one other silences pass = λ k d within. λ j e inside. λ is.
    let m = get_or (get_or silences k d).silence.matchers j e in
    second_of_two (one m.pattern) (other m.pattern) (pass k d within j e inside is)

-- some of the silences
pub silences_filtered : (test : List ℕ → Bool) (p : Mesh → Bool) (silences : List Mesh) → SilencesPass test silences → SilencesPass test (filter p silences)
silences_filtered test p silences pass = All-filter p (λ m. PatternsPass test m.silence.matchers) silences pass

-- the first matcher, and the others
module _ {left others : List Matcher} {m : Matcher} (first : left ≡ m ∷ others) (test : List ℕ → Bool) (pass : PatternsPass test left) where
  all : PatternsPass test (m ∷ others)
  all = subst (PatternsPass test) first pass

  pub first_passes : is_regexp m.kind ≡ true → test m.pattern ≡ true
  first_passes = All-head (λ n. is_regexp n.kind ≡ true → test n.pattern ≡ true) m others all

  pub others_pass : PatternsPass test others
  others_pass = All-tail (λ n. is_regexp n.kind ≡ true → test n.pattern ≡ true) m others all
