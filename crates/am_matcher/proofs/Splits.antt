-- The parts of a filter, from the left: each is there once.
use Rattle.std.proofs.Common.{◌≡◌, ℕ, Bool, true, false, ◌&&◌, List, [], ◌∷◌, ◌++◌, reverse, Some, None, refl, sym, ap, ◌∙◌, subst, arith, true≢false, drop}
use Rattle.std.specs.List.{list_all}
use Rattle.std.proofs.lemmas.List.{reverse-reverse}
use Rattle.std.proofs.lemmas.Bool.Decides.{nat_tests}
use Rattle.am_silence.specs.declared.matcher.MatcherKind.{MatcherKind}
use Rattle.am_silence.specs.declared.matcher.MatcherKind.TheVariants as kinds
use Rattle.am_matcher.specs.Filters.{is_blank, is_name_character, begins_name, begins_with, sign_of, sign_at, IsRun, IsSplit}
use Rattle.am_matcher.proofs.Runs.{same_run, cut_of_run, run_of_cut}

-- one after the other
pub record Steps (text : List ℕ) (kind : MatcherKind) (name written : List ℕ) : Type 0 where
  pub before : List ℕ
  pub from_name : List ℕ
  pub first : IsRun is_blank text before from_name
  pub begins : begins_with begins_name from_name ≡ true
  pub past_name : List ℕ
  pub second : IsRun is_name_character from_name name past_name
  pub between : List ℕ
  pub from_sign : List ℕ
  pub third : IsRun is_blank past_name between from_sign
  pub sign : sign_at from_sign ≡ Some kind
  pub past_sign : List ℕ
  pub signed : from_sign ≡ sign_of kind ++ past_sign
  pub after : List ℕ
  pub from_value : List ℕ
  pub fourth : IsRun is_blank past_sign after from_value
  pub behind : List ℕ
  pub last : IsRun is_blank (reverse from_value) behind (reverse written)

-- ---- what a part begins with
blank_is_no_name : (c : ℕ) → is_blank c ≡ true → is_name_character c ≡ false
blank_is_no_name c e = grind (arith, nat_tests)

name_is_no_blank : (c : ℕ) → begins_name c ≡ true → is_blank c ≡ false
name_is_no_blank c e = grind (arith, nat_tests)

begins_no_blank : (xs : List ℕ) → begins_with begins_name xs ≡ true → begins_with is_blank xs ≡ false
begins_no_blank [] e = refl
begins_no_blank (c ∷ xs) e = name_is_no_blank c e

begins_on : (xs ys : List ℕ) → begins_with begins_name xs ≡ true → begins_with begins_name (xs ++ ys) ≡ true
begins_on [] ys e = absurd (true≢false (sym e))
begins_on (c ∷ xs) ys e = e

sign_is_no_name : (kind : MatcherKind) (rest : List ℕ) → begins_with is_name_character (sign_of kind ++ rest) ≡ false
sign_is_no_name kinds.Equal rest = refl
sign_is_no_name kinds.Regexp rest = refl
sign_is_no_name kinds.NotEqual rest = refl
sign_is_no_name kinds.NotRegexp rest = refl

sign_is_no_blank : (kind : MatcherKind) (rest : List ℕ) → begins_with is_blank (sign_of kind ++ rest) ≡ false
sign_is_no_blank kinds.Equal rest = refl
sign_is_no_blank kinds.Regexp rest = refl
sign_is_no_blank kinds.NotEqual rest = refl
sign_is_no_blank kinds.NotRegexp rest = refl

first_of_two : (a b : Bool) → (a && b) ≡ true → a ≡ true
first_of_two true b e = refl
first_of_two false b e = e

name_ends : (between rest : List ℕ) → list_all is_blank between ≡ true → begins_with is_name_character rest ≡ false → begins_with is_name_character (between ++ rest) ≡ false
name_ends [] rest blank e = e
name_ends (c ∷ between) rest blank e = blank_is_no_name c (first_of_two _ _ blank)

-- ---- the parts as steps, and back
pub steps_of : (text : List ℕ) (kind : MatcherKind) (name written : List ℕ) → IsSplit text kind name written → Steps text kind name written
steps_of text kind name written p =
    let past_sign = p.after ++ (written ++ p.behind) in
    let from_sign = sign_of kind ++ past_sign in
    let past_name = p.between ++ from_sign in
    let begins : begins_with begins_name (name ++ past_name) ≡ true = begins_on name past_name p.is_name.first in
    record {
      before = p.before;
      from_name = name ++ past_name;
      first = record { joined = p.joined; pass = p.before_blank; stops = begins_no_blank (name ++ past_name) begins };
      begins = begins;
      past_name = past_name;
      second = record {
        joined = refl;
        pass = p.is_name.characters;
        stops = name_ends p.between from_sign p.between_blank (sign_is_no_name kind past_sign);
      };
      between = p.between;
      from_sign = from_sign;
      third = record { joined = refl; pass = p.between_blank; stops = sign_is_no_blank kind past_sign };
      sign = p.first_sign;
      past_sign = past_sign;
      signed = refl;
      after = p.after;
      from_value = written ++ p.behind;
      fourth = record { joined = refl; pass = p.after_blank; stops = p.begins };
      behind = reverse p.behind;
      last = run_of_cut is_blank written p.behind p.behind_blank p.ends;
    }

begins_back : (xs ys : List ℕ) → begins_with begins_name (xs ++ ys) ≡ true → begins_with is_name_character ys ≡ false → begins_with begins_name xs ≡ true
begins_back [] [] e stops = e
begins_back [] (c ∷ ys) e stops = absurd (true≢false (sym (first_of_two _ _ e) ∙ stops))
begins_back (c ∷ xs) ys e stops = e

pub split_of : (text : List ℕ) (kind : MatcherKind) (name written : List ℕ) → Steps text kind name written → IsSplit text kind name written
split_of text kind name written s =
    let cut = cut_of_run is_blank s.from_value written s.behind s.last in
    let past_sign : s.past_sign ≡ s.after ++ (written ++ reverse s.behind) = s.fourth.joined ∙ ap (λ (l : List ℕ). s.after ++ l) cut.0 in
    let from_sign : s.from_sign ≡ sign_of kind ++ (s.after ++ (written ++ reverse s.behind)) = s.signed ∙ ap (λ (l : List ℕ). sign_of kind ++ l) past_sign in
    record {
      before = s.before;
      between = s.between;
      after = s.after;
      behind = reverse s.behind;
      joined =
          s.first.joined
          ∙ ap (λ (l : List ℕ). s.before ++ l) (s.second.joined ∙ ap (λ (l : List ℕ). name ++ l) (s.third.joined ∙ ap (λ (l : List ℕ). s.between ++ l) from_sign));
      before_blank = s.first.pass;
      between_blank = s.third.pass;
      after_blank = s.fourth.pass;
      behind_blank = cut.1;
      is_name = record {
        characters = s.second.pass;
        first = begins_back name s.past_name (subst (λ (l : List ℕ). begins_with begins_name l ≡ true) s.second.joined s.begins) s.second.stops;
      };
      first_sign = sym (ap sign_at from_sign) ∙ s.sign;
      begins = subst (λ (l : List ℕ). begins_with is_blank l ≡ false) cut.0 s.fourth.stops;
      ends = s.last.stops;
    }

-- ---- each part is there once
sign_length : MatcherKind → ℕ
sign_length kinds.Equal = 1
sign_length kinds.Regexp = 2
sign_length kinds.NotEqual = 2
sign_length kinds.NotRegexp = 2

past : (kind : MatcherKind) (rest : List ℕ) → drop (sign_length kind) (sign_of kind ++ rest) ≡ rest
unfolding sign_length
past kinds.Equal rest = refl
past kinds.Regexp rest = refl
past kinds.NotEqual rest = refl
past kinds.NotRegexp rest = refl

pub past_sign_once : (kind other : MatcherKind) (text rest tail : List ℕ) → kind ≡ other → text ≡ sign_of kind ++ rest → text ≡ sign_of other ++ tail → rest ≡ tail
past_sign_once kind other text rest tail same p q =
    sym (past kind rest) ∙ ap (drop (sign_length kind)) (sym p ∙ q ∙ ap (λ (k : MatcherKind). sign_of k ++ tail) (sym same)) ∙ past kind tail

pub kind_once : (kind other : MatcherKind) → Some kind ≡ Some other → kind ≡ other
kind_once kind other e = cc

-- a text has one name, one sign and one value
pub record SameParts (kind other : MatcherKind) (name name' written written' : List ℕ) : Type 0 where
  pub same_kind : kind ≡ other
  pub same_name : name ≡ name'
  pub same_written : written ≡ written'

pub same_steps : (text : List ℕ) (kind other : MatcherKind) (name name' written written' : List ℕ) → Steps text kind name written → Steps text other name' written' → SameParts kind other name name' written written'
same_steps text kind other name name' written written' s t =
    let first = same_run is_blank text text _ _ _ _ refl s.first t.first in
    let second = same_run is_name_character _ _ _ _ _ _ first.1 s.second t.second in
    let third = same_run is_blank _ _ _ _ _ _ second.1 s.third t.third in
    let same : kind ≡ other = kind_once kind other (sym s.sign ∙ ap sign_at third.1 ∙ t.sign) in
    let past_sign : s.past_sign ≡ t.past_sign = past_sign_once kind other t.from_sign _ _ same (sym third.1 ∙ s.signed) t.signed in
    let fourth = same_run is_blank _ _ _ _ _ _ past_sign s.fourth t.fourth in
    let last = same_run is_blank _ _ _ _ _ _ (ap reverse fourth.1) s.last t.last in
    record { same_kind = same; same_name = second.0; same_written = sym (reverse-reverse written) ∙ ap reverse last.1 ∙ reverse-reverse written' }

-- ---- where a part is missing
pub no_name : (text before rest : List ℕ) → IsRun is_blank text before rest → begins_with begins_name rest ≡ false → (kind : MatcherKind) (name written : List ℕ) → IsSplit text kind name written → ⊥
no_name text before rest run none kind name written split =
    let s = steps_of text kind name written split in
    let same = same_run is_blank text text _ _ _ _ refl s.first run in
    true≢false (sym s.begins ∙ ap (begins_with begins_name) same.1 ∙ none)

pub no_sign : (text before from_name name past_name between from_sign : List ℕ) → IsRun is_blank text before from_name → IsRun is_name_character from_name name past_name → IsRun is_blank past_name between from_sign → sign_at from_sign ≡ None → (kind : MatcherKind) (other written : List ℕ) → IsSplit text kind other written → ⊥
no_sign text before from_name name past_name between from_sign one two three none kind other written split =
    let s = steps_of text kind other written split in
    let first = same_run is_blank text text _ _ _ _ refl s.first one in
    let second = same_run is_name_character _ _ _ _ _ _ first.1 s.second two in
    let third = same_run is_blank _ _ _ _ _ _ second.1 s.third three in
    let clash : Some kind ≡ None = sym s.sign ∙ ap sign_at third.1 ∙ none in
    cc
