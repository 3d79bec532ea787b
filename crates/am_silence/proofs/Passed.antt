-- The canonical encoding of a version, passed part by part.
use Rattle.std.proofs.Common.{◌≡◌, ℕ, ◌-◌, ◌^◌, ◌<◌, ◌≤◌, cond, eqb, true, false, List, [], ◌∷◌, ◌++◌, length, length-append, drop, refl, sym, ap, subst, ◌∙◌, arith}
use Rattle.std.specs.Prelude.{All}
use Rattle.std.proofs.lemmas.Bool.{eqb-true, eqb-false}
use Rattle.std.proofs.lemmas.List.{flat_map_more}
use Rattle.std.proofs.lemmas.List.Elements.{All-nil, All-push}
use Rattle.std.proofs.Math.Seq.{drop-append_seam}
use Rattle.am_wire.specs.Passing.{Passing, Passes}
use Rattle.am_wire.specs.Timestamps.{writes_moment}
use Rattle.am_wire.specs.Varint.{shortest}
use Rattle.am_wire.specs.Writing.{tag, writes_number, writes_text, writes_delimited}
use Rattle.am_wire.specs.RoundTrip.Plain.{writes_none}
use Rattle.am_wire.proofs.Passings.{both, nothing, whole as passed_whole}
use Rattle.am_silence.specs.declared.matcher.Matcher.{Matcher}
use Rattle.am_silence.specs.declared.matcher.MatcherKind.TheVariants as kinds
use Rattle.am_silence.specs.declared.silence.Silence.{Silence}
use Rattle.am_silence.specs.Kinds.{kind_code, kind_of}
use Rattle.am_silence.specs.Matchers.{writes_matcher, IsMatcher}
use Rattle.am_silence.specs.MatcherTexts.{writes_matchers, matchers_in, IsMatchersText}
use Rattle.am_silence.specs.Mesh.{plain_version, writes_mesh_silence}
use Rattle.am_silence.specs.Silences.{writes_silence}
use Rattle.am_silence.proofs.MatcherTexts.{is_text, matchers_spelled, tag_2}

-- the number of the kind of a number
code_again : (n : ℕ) → n ≤ 3 → kind_code (kind_of n) ≡ n
code_again n low =
    elim (eqb n 0) as (λ b. eqb n 0 ≡ b → kind_code (cond b kinds.Equal (cond (eqb n 1) kinds.Regexp (cond (eqb n 2) kinds.NotEqual kinds.NotRegexp))) ≡ n) [
      | true ↦ λ e. sym (eqb-true n 0 e)
      | false ↦ λ e. elim (eqb n 1) as (λ b. eqb n 1 ≡ b → kind_code (cond b kinds.Regexp (cond (eqb n 2) kinds.NotEqual kinds.NotRegexp)) ≡ n) [
        | true ↦ λ f. sym (eqb-true n 1 f)
        | false ↦ λ f. elim (eqb n 2) as (λ b. eqb n 2 ≡ b → kind_code (cond b kinds.NotEqual kinds.NotRegexp) ≡ n) [
          | true ↦ λ g. sym (eqb-true n 2 g)
          | false ↦ λ g. omega (arith, low, eqb-false n 0 e, eqb-false n 1 f, eqb-false n 2 g)
        ] refl
      ] refl
    ] refl

pub matcher_passed : (kind : ℕ) (name pattern : List ℕ) (old a b new : Passing) → kind ≤ 3 → Passes (writes_number 1 kind) old a
    → Passes (writes_text 2 name) a b → Passes (writes_text 3 pattern) b new
    → Passes (writes_matcher (record { kind = kind_of kind; name = name; pattern = pattern })) old new
unfolding writes_matcher
matcher_passed kind name pattern old a b new low one two three =
    rw (code_again kind low) (both _ _ old b new (both _ _ old a b one two) three)

pub matcher_behind : (m : Matcher) (size : ℕ) (old mid new : Passing) → Passes (tag 2 2 ++ shortest size) old mid → Passes (writes_matcher m) mid new
    → length new.passed - length mid.passed ≡ size → Passes (writes_delimited 2 (writes_matcher m)) old new
matcher_behind m size old mid new front inner counts = passed_whole 2 size (writes_matcher m) old mid new front inner counts

pub silence_passed : (s : Silence) (old a b c d e f new : Passing) → Passes (writes_text 1 s.id) old a → Passes (writes_matchers s.matchers) a b
    → Passes (writes_delimited 3 (writes_moment s.starts_at)) b c → Passes (writes_delimited 4 (writes_moment s.ends_at)) c d
    → Passes (writes_delimited 5 (writes_moment s.updated_at)) d e → Passes (writes_text 8 s.created_by) e f → Passes (writes_text 9 s.comment) f new
    → Passes (writes_silence s) old new
unfolding writes_silence
silence_passed s old a b c d e f new id matchers starts ends updated author comment =
    both _ _ old f new (both _ _ old e f (both _ _ old d e (both _ _ old c d (both _ _ old b c (both _ _ old a b id matchers) starts) ends)
    updated) author) comment

pub version_passed : (s : Silence) (expires_at size : ℕ) (text : List ℕ) (a b new : Passing)
    → Passes (tag 1 2 ++ shortest size) (record { text = text; passed = [] }) a
    → Passes (writes_silence s) a b → length b.passed - length a.passed ≡ size
    → Passes (writes_delimited 2 (writes_moment expires_at)) b new → new.passed ≡ new.text → text ≡ writes_mesh_silence (plain_version s expires_at)
unfolding writes_mesh_silence
version_passed s expires_at size text a b new front silence counts moment over =
    let start : Passing = record { text = text; passed = [] } in
    let all = both _ _ start b new (passed_whole 1 size (writes_silence s) start a b front silence counts) moment in
    sym all.text ∙ sym over ∙ all.passed ∙ sym (writes_none (writes_silence s) expires_at)

-- ---- matchers, one after the other

-- from one reading to another just matchers are passed
pub record HasPassed (old new : Passing) : Type 0 where
  pub matchers : List Matcher
  pub values : All IsMatcher matchers
  pub passes : Passes (writes_matchers matchers) old new

pub none_passed : (old : Passing) → HasPassed old old
none_passed old = record { matchers = []; values = All-nil IsMatcher; passes = nothing old }

pub one_more : (m : Matcher) (old mid new : Passing) → HasPassed old mid → IsMatcher m → Passes (writes_delimited 2 (writes_matcher m)) mid new → HasPassed old new
one_more m old mid new h value passes = record {
  matchers = h.matchers ++ m ∷ [];
  values = All-push IsMatcher h.matchers m h.values value;
  passes = subst (λ (x : List ℕ). Passes x old new) (flat_map_more (λ (m : Matcher). writes_delimited 2 (writes_matcher m)) [] h.matchers m)
      (both _ _ old mid new h.passes passes);
}

-- less is left
pub shrinks : (part : List ℕ) (old new : Passing) → Passes (writes_delimited 2 part) old new → length old.passed < length old.text
    → length new.text - length new.passed < length old.text - length old.passed
shrinks part old new h low =
    let tagged : length (tag 2 2) ≡ 1 = ap length tag_2 in
    let long = ap length h.passed ∙ length-append old.passed (writes_delimited 2 part) in
    let more = length-append (tag 2 2) (shortest (length part) ++ part) in
    let same = ap length h.text in
    omega (arith, tagged, long, more, same, low)

module _ (old new : Passing) (h : HasPassed old new) where
  pub begins_before : length old.passed ≤ length new.passed
  begins_before = omega (arith, ap length h.passes.passed, length-append old.passed (writes_matchers h.matchers))

  -- the text that is passed since
  module _ (text : List ℕ) (is : text ≡ drop (length old.passed) new.passed) (short : length text < 2 ^ 64) where
    text_is : text ≡ writes_matchers h.matchers
    text_is = is ∙ ap (drop (length old.passed)) h.passes.passed ∙ drop-append_seam old.passed (writes_matchers h.matchers)

    few : length (writes_matchers h.matchers) < 2 ^ 64
    few = subst (λ (x : List ℕ). length x < 2 ^ 64) text_is short

    pub since_text : IsMatchersText text
    since_text = subst IsMatchersText (sym text_is) (is_text h.matchers h.values few)

    pub since_passed : (matchers : List Matcher) → matchers ≡ matchers_in text → Passes (writes_matchers matchers) old new
    since_passed matchers spelled =
        subst (λ (ms : List Matcher). Passes (writes_matchers ms) old new)
        (sym (spelled ∙ ap matchers_in text_is ∙ matchers_spelled h.matchers h.values few)) h.passes

    pub since_values : (matchers : List Matcher) → matchers ≡ matchers_in text → All IsMatcher matchers
    since_values matchers spelled =
        subst (All IsMatcher) (sym (spelled ∙ ap matchers_in text_is ∙ matchers_spelled h.matchers h.values few)) h.values
