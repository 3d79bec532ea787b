-- The written text of a silence shows it, cut to milliseconds.
use Rattle.std.proofs.Common.{◌≡◌, ℕ, List, [], ◌∷◌, map, Some, refl, ap, ◌∙◌, arith}
use Rattle.std.specs.Prelude.{codes, option_and_then, option_map}
use Rattle.serde_json.specs.Data.{Data}
use Rattle.serde_json.specs.View.{items_of}
use Rattle.am_silence.specs.declared.matcher.Matcher.{Matcher}
use Rattle.am_silence.specs.declared.matcher.MatcherKind.{MatcherKind}
use Rattle.am_silence.specs.declared.matcher.MatcherKind.TheVariants as kinds
use Rattle.am_silence.specs.declared.state.State.{State}
use Rattle.am_silence.specs.Kinds.{is_regexp}
use Rattle.am_silence.specs.Mesh.{Mesh}
use Rattle.am_silence_json.specs.Gettables.{is_equal, matcher_data, gettable_data, IsGettable, AreGettable}
use Rattle.am_silence_json.specs.Posts.{kind_of, matcher_of, matchers_of, text_in}
use Rattle.am_silence_json.specs.Shown.{HasCut, IsShown, AreShown, cut_moment, cut_to_shown}
use Rattle.am_silence_json.specs.Written.{WritesMoment}
use Rattle.am_silence_json.proofs.RoundTrip.{texts_read}

kind_again : (k : MatcherKind) → kind_of (is_regexp k) (is_equal k) ≡ k
kind_again kinds.Equal = refl
kind_again kinds.Regexp = refl
kind_again kinds.NotEqual = refl
kind_again kinds.NotRegexp = refl

matcher_again : (m : Matcher) → matcher_of (matcher_data m) ≡ Some m
matcher_again m = ap (λ (k : MatcherKind). Some (record { kind = k; name = m.name; pattern = m.pattern })) (kind_again m.kind)

matchers_again : (ms : List Matcher) → matchers_of (items_of (map matcher_data ms)) ≡ Some ms
matchers_again [] = refl
matchers_again (m ∷ ms) =
    let others = matchers_of (items_of (map matcher_data ms)) in
    ap (option_and_then (λ (x : Matcher). option_map (λ (xs : List Matcher). x ∷ xs) others)) (matcher_again m)
    ∙ ap (option_map (λ (xs : List Matcher). m ∷ xs)) (matchers_again ms)

cut_again : (m : ℕ) → cut_moment m ≡ cut_moment (cut_moment m)
cut_again m = omega arith

moment_again : (key : List ℕ) (d : Data) (m : ℕ) (text : List ℕ) → text_in key d ≡ Some text → WritesMoment m text → HasCut key d (cut_moment m)
moment_again key d m text here w = record {
  whole = cut_moment m;
  here = record { text = text; here = here; spelled = texts_read m text w };
  cut = cut_again m;
}

gettable_shown :
    (m : Mesh) (state : State) (starts ends updated : List ℕ) → WritesMoment m.silence.starts_at starts
    → WritesMoment m.silence.ends_at ends → WritesMoment m.silence.updated_at updated
    → IsShown (gettable_data m.silence state starts ends updated) (cut_to_shown m)
gettable_shown m state starts ends updated s e u =
    let d = gettable_data m.silence state starts ends updated in
    record {
      id = refl;
      starts_at = moment_again (codes "startsAt") d m.silence.starts_at starts refl s;
      ends_at = moment_again (codes "endsAt") d m.silence.ends_at ends refl e;
      updated_at = moment_again (codes "updatedAt") d m.silence.updated_at updated refl u;
      created_by = refl;
      comment = refl;
      matchers = matchers_again m.silence.matchers;
      expires_at = refl;
      unknown = refl;
    }

pub one_again : (m : Mesh) (state : State) (d : Data) → IsGettable m.silence state d → IsShown d (cut_to_shown m)
one_again m state d h = rw h.value (gettable_shown m state h.starts h.ends h.updated h.starts_at h.ends_at h.updated_at)

-- what is written of silences shows them
pub shown_again : (rows : List (Mesh × State)) (ds : List Data) → AreGettable rows ds → AreShown ds (map (λ row. cut_to_shown row.0) rows)
shown_again [] [] h = tt
shown_again [] (d ∷ ds) h = absurd h
shown_again (row ∷ rows) [] h = absurd h
shown_again (row ∷ rows) (d ∷ ds) h = (one_again row.0 row.1 d h.0, shown_again rows ds h.1)
