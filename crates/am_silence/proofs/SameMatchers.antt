-- Matchers that are the same are equal.
use Rattle.std.proofs.Common.{◌≡◌, Bool, true, ◌&&◌, ◌==◌, ◌<◌, ◌^◌, false, List, length, refl, sym, ap, ◌∙◌}
use Rattle.std.specs.Bool.{Decides}
use Rattle.std.specs.Prelude.{All}
use Rattle.std.specs.Str.{bytes_eq}
use Rattle.std.specs.Cmp.{first_so, second_so}
use Rattle.std.specs.Cmp.Derive.{both_true}
use Rattle.std.proofs.lemmas.Slice.Eq.{bytes_eq-Decides, slice_eq-Decides}
use Rattle.std.proofs.lemmas.Bool.Decides.{Decides-eqb}
use Rattle.am_silence.specs.declared.matcher.Matcher.{Matcher}
use Rattle.am_silence.specs.declared.matcher.MatcherKind.{MatcherKind}
use Rattle.am_silence.specs.Kinds.{kind_code, kind_of}
use Rattle.am_silence.specs.RoundTrip.{kind_again}
use Rattle.am_silence.specs.Matchers.{IsMatcher}
use Rattle.am_silence.specs.MatcherTexts.{writes_matchers, matchers_in}
use Rattle.am_silence.specs.Plans.{same_matcher, same_matchers}
use Rattle.am_silence.proofs.MatcherTexts.{matchers_spelled}

kind_Decides : (k l : MatcherKind) → Decides (kind_code k == kind_code l) (k ≡ l)
kind_Decides k l = (λ h. sym (kind_again k) ∙ (ap kind_of ((Decides-eqb (kind_code k) (kind_code l)).0 h) ∙ kind_again l), λ e. (Decides-eqb (kind_code k) (kind_code l)).1 (ap kind_code e))

-- two matchers are the same where they are equal
matcher_Decides : (m n : Matcher) → Decides (same_matcher m n) (m ≡ n)
matcher_Decides m n =
    let kind = kind_Decides m.kind n.kind in
    let name = bytes_eq-Decides m.name n.name in
    let pattern = bytes_eq-Decides m.pattern n.pattern in (
      λ h. let parts = and_true _ _ h in let texts = and_true _ _ parts.1 in
          λ i. record { kind = kind.0 parts.0 i; name = name.0 texts.0 i; pattern = pattern.0 texts.1 i },
      λ e. both_true (kind.1 (ap (λ (x : Matcher). x.kind) e)) (both_true (name.1 (ap (λ (x : Matcher). x.name) e)) (pattern.1 (ap (λ (x : Matcher). x.pattern) e))),
    )
  where
    and_true : (a b : Bool) → (a && b) ≡ true → (a ≡ true) × (b ≡ true)
    and_true a b h = (first_so a b h, second_so a b h)

same_matchers-Decides : (xs ys : List Matcher) → Decides (same_matchers xs ys) (xs ≡ ys)
same_matchers-Decides xs ys = slice_eq-Decides matcher_Decides xs ys (same_matchers xs ys) refl

-- tests of one fact are one
one_test : {P : Type 0} (a b : Bool) → Decides a P → Decides b P → a ≡ b
one_test true b one other = sym (other.1 (one.0 refl))
one_test false true one other = one.1 (other.0 refl)
one_test false false one other = refl

-- ---- the texts of matchers
module _ (xs ys : List Matcher) (values_x : All IsMatcher xs) (values_y : All IsMatcher ys)
    (short_x : length (writes_matchers xs) < 2 ^ 64) (short_y : length (writes_matchers ys) < 2 ^ 64)
    (r : Bool) (is : r ≡ bytes_eq (writes_matchers xs) (writes_matchers ys)) where
  -- those of one text are equal
  of_one_text : writes_matchers xs ≡ writes_matchers ys → xs ≡ ys
  of_one_text same = sym (matchers_spelled xs values_x short_x) ∙ ap matchers_in same ∙ matchers_spelled ys values_y short_y

  pub texts_tell : Decides r (xs ≡ ys)
  texts_tell =
      let tells = bytes_eq-Decides (writes_matchers xs) (writes_matchers ys) in
      (λ h. of_one_text (tells.0 (sym is ∙ h)), λ e. is ∙ tells.1 (ap writes_matchers e))

  pub texts_test : r ≡ same_matchers xs ys
  texts_test = one_test r (same_matchers xs ys) texts_tell (same_matchers-Decides xs ys)
