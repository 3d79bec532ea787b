-- Readings of a text, from piece to piece.
use Rattle.std.proofs.Common.{◌≡◌, ◌∙◌, ℕ, ◌==◌, true, false, List, [], ◌∷◌, length, append_assoc, append-nil, refl, sym, ap, subst, Some, None, arith}
use Rattle.std.specs.Prelude.{Option, Result, Ok, Err, chars, MatchOption, MatchResult}
use Rattle.std.proofs.lemmas.Bool.Decides.{nat_tests}
use Rattle.am_matcher.specs.declared.re2.pieces.PatternPlace.{PatternPlace}
use Rattle.am_matcher.specs.declared.re2.pieces.PatternPlace.TheVariants.{Outside, ClassStart, Class, Quotation}
use Rattle.am_matcher.specs.Re2Spelling.{Read}
use Rattle.am_matcher.specs.Re2Pieces.{first_piece, outside_piece, class_item, later_item, quoted, range_at, member, is_range}
use Rattle.am_matcher.specs.Re2.{Contents, no_contents, join, of_piece, IsRead, nothing, piece, IsSoundContents, IsTranslated, IsRe2}

-- no piece is empty
no_piece : (place : PatternPlace) → first_piece place [] ≡ None
unfolding first_piece outside_piece class_item later_item quoted range_at member is_range
no_piece Outside = refl
no_piece ClassStart = refl
no_piece Class = refl
no_piece Quotation = refl

some_is : (a b : Read) → Some a ≡ Some b → a ≡ b
some_is a b e = cc

join-assoc : (a b c : Contents) → join a (join b c) ≡ join (join a b) c
join-assoc a b c = λ i. record {
  parts = sym (append_assoc a.parts b.parts c.parts) i;
  written = sym (append_assoc a.written b.written c.written) i;
  names = sym (append_assoc a.names b.names c.names) i;
}

-- something is read from a place on
pub record GoesOn (place : PatternPlace) (left : List ℕ) : Type 0 where
  pub more : Contents
  pub is_read : IsRead place left more

next_read : {place : PatternPlace} {left : List ℕ} {more : Contents} → IsRead place left more → (front : Read) → first_piece place left ≡ Some front → GoesOn front.place front.rest
next_read nothing front e = absurd (let lost : None ≡ Some front = sym (no_piece Outside) ∙ e in cc)
next_read (piece {more} other is r) front e =
    let same : other ≡ front = some_is other front (sym is ∙ e) in
    record { more = more; is_read = subst (λ (f : Read). IsRead f.place f.rest more) same r }

not_stuck : {place : PatternPlace} {left : List ℕ} {more : Contents} → IsRead place left more → (length left ≡ 0 → ⊥) → first_piece place left ≡ None → ⊥
not_stuck nothing some e = some refl
not_stuck (piece other is r) some e = let lost : None ≡ Some other = sym e ∙ is in cc

no_first : (place : PatternPlace) (left : List ℕ) (front : Read) → length left ≡ 0 → first_piece place left ≡ Some front → ⊥
no_first place [] front e is = let lost : None ≡ Some front = sym (no_piece place) ∙ is in cc
no_first place (c ∷ left) front e is = omega arith

ended : {place : PatternPlace} {left : List ℕ} {more : Contents} → IsRead place left more → length left ≡ 0 → place ≡ Outside
ended nothing e = refl
ended {place} {left} (piece other is r) e = absurd (no_first place left other e is)

nothing_left : (left : List ℕ) → length left ≡ 0 → left ≡ []
nothing_left [] e = refl
nothing_left (c ∷ left) e = absurd (omega arith)

join-no_contents : (a : Contents) → join a no_contents ≡ a
join-no_contents a = λ i. record { parts = append-nil a.parts i; written = append-nil a.written i; names = append-nil a.names i }

-- ---- one reading
-- it is empty where the text is
empty_of : {place : PatternPlace} {text : List ℕ} {more : Contents} → IsRead place text more → length text ≡ 0 → more ≡ no_contents
empty_of nothing e = refl
empty_of {place} {text} (piece front is r) e = absurd (no_first place text front e is)

-- what is read behind the same piece
record Behind (front : Read) (all : Contents) : Type 0 where
  more : Contents
  is_read : IsRead front.place front.rest more
  all_is : all ≡ join (of_piece front) more

behind : {place : PatternPlace} {text : List ℕ} {all : Contents} → IsRead place text all → (front : Read) → first_piece place text ≡ Some front → Behind front all
behind nothing front e = absurd (let lost : None ≡ Some front = sym (no_piece Outside) ∙ e in cc)
behind (piece {more} other is r) front e =
    let same : other ≡ front = some_is other front (sym is ∙ e) in record {
      more = more;
      is_read = subst (λ (f : Read). IsRead f.place f.rest more) same r;
      all_is = ap (λ (f : Read). join (of_piece f) more) same;
    }

pub read_once : {place : PatternPlace} {text : List ℕ} {a b : Contents} → IsRead place text a → IsRead place text b → a ≡ b
read_once nothing q = sym (empty_of q refl)
read_once (piece {more} front is r) q =
    let other = behind q front is in
    ap (join (of_piece front)) (read_once r other.is_read) ∙ sym other.all_is

-- ---- so far as the reading has come
pub record Reads (characters : List ℕ) (place : PatternPlace) (left : List ℕ) (found : Contents) : Type 0 where
  pub forward : (more : Contents) → IsRead place left more → IsRead Outside characters (join found more)
  pub backward : (all : Contents) → IsRead Outside characters all → GoesOn place left

pub reads_all : (characters : List ℕ) → Reads characters Outside characters no_contents
reads_all characters = record { forward = λ more r. r; backward = λ all r. record { more = all; is_read = r } }

reads_next : {characters : List ℕ} {place : PatternPlace} {left : List ℕ} {found : Contents} → Reads characters place left found → (front : Read) → first_piece place left ≡ Some front → Reads characters front.place front.rest (join found (of_piece front))
reads_next {characters} {found} so front is = record {
  forward = λ more r. subst (IsRead Outside characters) (join-assoc found (of_piece front) more) (so.forward (join (of_piece front) more) (piece front is r));
  backward = λ all r. next_read (so.backward all r).is_read front is;
}

pub reads_on : {characters : List ℕ} {place : PatternPlace} {left : List ℕ} {found : Contents} → Reads characters place left found → (front seen : Read) (new : Contents) → Some front ≡ first_piece place left → seen ≡ front → new ≡ join found (of_piece front) → Reads characters seen.place seen.rest new
reads_on {characters} so front seen new is same found_is =
    subst (λ (f : Read). Reads characters f.place f.rest new) (sym same)
    (subst (Reads characters front.place front.rest) (sym found_is) (reads_next so front (sym is)))

some_left : (n : ℕ) → false ≡ (n == 0) → n ≡ 0 → ⊥
some_left n e z = grind (arith, nat_tests)

none_left : (n : ℕ) → true ≡ (n == 0) → n ≡ 0
none_left n e = grind (arith, nat_tests)

pub reads_nothing : {characters : List ℕ} {place : PatternPlace} {left : List ℕ} {found : Contents} → Reads characters place left found → false ≡ (length left == 0) → None ≡ first_piece place left → (all : Contents) → IsRead Outside characters all → ⊥
reads_nothing {left} so some e all r = not_stuck (so.backward all r).is_read (some_left (length left) some) (sym e)

pub reads_whole : {characters : List ℕ} {place : PatternPlace} {left : List ℕ} {found : Contents} → Reads characters place left found → true ≡ (length left == 0) → place ≡ Outside → IsRead Outside characters found
reads_whole {characters} {place} {left} {found} so e is =
    let end : IsRead place left no_contents =
    subst (λ (p : PatternPlace). IsRead p left no_contents) (sym is)
    (subst (λ (t : List ℕ). IsRead Outside t no_contents) (sym (nothing_left left (none_left (length left) e))) nothing) in
    subst (IsRead Outside characters) (join-no_contents found) (so.forward no_contents end)

pub reads_open : {characters : List ℕ} {place : PatternPlace} {left : List ℕ} {found : Contents} → Reads characters place left found → true ≡ (length left == 0) → (place ≡ Outside → ⊥) → (all : Contents) → IsRead Outside characters all → ⊥
reads_open {left} so e other all r = other (ended (so.backward all r).is_read (none_left (length left) e))

-- ---- patterns that are not taken

pub not_sound : (characters : List ℕ) (found : Contents) → IsRead Outside characters found → (IsSoundContents found → ⊥) → (written : List ℕ) → IsTranslated characters written → ⊥
not_sound characters found r unsound written t = unsound (subst IsSoundContents (read_once t.is_read r) t.sound)

pub faulty : (characters : List ℕ) (found : Contents) (fault : Option ℕ) (place : ℕ) → IsRead Outside characters found → MatchOption fault (IsSoundContents found) (λ _. IsSoundContents found → ⊥) → fault ≡ Some place → (written : List ℕ) → IsTranslated characters written → ⊥
faulty characters found None place r m is = cc
faulty characters found (Some other) place r m is = not_sound characters found r m

pub of_err : {A : Type 0} (P : A → Type 0) (Q : Type 0) (found : Result A ℕ) (at : ℕ) → MatchResult found P (λ _. Q) → found ≡ Err at → Q
of_err P Q (Ok a) at m is = cc
of_err P Q (Err other) at m is = m

pub not_re2 : (pattern characters : List ℕ) → characters ≡ chars pattern → ((written : List ℕ) → IsTranslated characters written → ⊥) → IsRe2 pattern → ⊥
not_re2 pattern characters is none (translation, t) =
    none t.written (subst (λ (cs : List ℕ). IsTranslated cs t.written) (sym is) t.is_translated)
