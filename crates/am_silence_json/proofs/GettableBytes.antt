-- The text of a list of silences is UTF-8.
use Rattle.std.proofs.Common.{ℕ, ◌<◌, ◌/◌, List, [], ◌∷◌, map, Bool, true, false, refl, arith}
use Rattle.std.specs.Prelude.{All, ⊤}
use Rattle.std.specs.Str.{IsUtf8}
use Rattle.std.proofs.lemmas.List.Elements.{All-head, All-tail}
use Rattle.std.proofs.lemmas.Str.{IsUtf8-append}
use Rattle.json.proofs.Printed.Utf8.{IsUtf8-are_ascii, IsUtf8-quoted, IsUtf8-boolean}
use Rattle.serde_json.specs.Data.{Data, null, boolean, number, string, array, object, Items, no_items, item, Members, no_members, member}
use Rattle.serde_json.specs.View.{items_of}
use Rattle.serde_json.specs.Written.{compact_text, items_text, members_text, comma_if}
use Rattle.am_silence.specs.declared.matcher.Matcher.{Matcher}
use Rattle.am_silence.specs.declared.silence.Silence.{Silence}
use Rattle.am_silence.specs.declared.state.State.{State}
use Rattle.am_silence.specs.declared.state.State.TheVariants as states
use Rattle.am_silence.specs.Matchers.{IsMatcher}
use Rattle.am_silence.specs.Silences.{IsSilence}
use Rattle.am_silence.specs.Mesh.{Mesh, IsMesh}
use Rattle.am_silence_json.specs.Gettables.{matcher_data, state_text, IsGettable, AreGettable}
use Rattle.am_silence_json.specs.Written.{WritesMoment}
use Rattle.am_silence_json.proofs.RoundTrip.{real_bounds}
use Rattle.am_silence_json.proofs.Bytes.{utf8_text}

-- its texts are UTF-8, and it has no numbers
abbrev mutual
  HasTexts : Data → Type 0
  HasTexts null = ⊤
  HasTexts (boolean b) = ⊤
  HasTexts (number n) = ⊥
  HasTexts (string s) = IsUtf8 s
  HasTexts (array ds) = ItemsHaveTexts ds
  HasTexts (object ms) = MembersHaveTexts ms

  ItemsHaveTexts : Items → Type 0
  ItemsHaveTexts no_items = ⊤
  ItemsHaveTexts (item d ds) = HasTexts d × ItemsHaveTexts ds

  MembersHaveTexts : Members → Type 0
  MembersHaveTexts no_members = ⊤
  MembersHaveTexts (member k d ms) = IsUtf8 k × HasTexts d × MembersHaveTexts ms

comma_utf8 : (later : Bool) → IsUtf8 (comma_if later)
comma_utf8 true = IsUtf8-are_ascii _ refl
comma_utf8 false = IsUtf8-are_ascii _ refl

mark_utf8 : (x : ℕ) (rest : List ℕ) → IsUtf8 (x ∷ []) → IsUtf8 rest → IsUtf8 (x ∷ rest)
mark_utf8 x rest h k = IsUtf8-append (x ∷ []) rest h k

mutual
  text_utf8 : (d : Data) → HasTexts d → IsUtf8 (compact_text d)
  text_utf8 null h = IsUtf8-are_ascii _ refl
  text_utf8 (boolean b) h = IsUtf8-boolean b
  text_utf8 (number n) h = absurd h
  text_utf8 (string s) h = IsUtf8-quoted s h
  text_utf8 (array ds) h = mark_utf8 91 _ (IsUtf8-are_ascii _ refl) (items_utf8 false ds h)
  text_utf8 (object ms) h = mark_utf8 123 _ (IsUtf8-are_ascii _ refl) (members_utf8 false ms h)

  items_utf8 : (later : Bool) (ds : Items) → ItemsHaveTexts ds → IsUtf8 (items_text later ds)
  items_utf8 later no_items h = IsUtf8-are_ascii _ refl
  items_utf8 later (item d ds) h = IsUtf8-append _ _ (comma_utf8 later) (IsUtf8-append _ _ (text_utf8 d h.0) (items_utf8 true ds h.1))

  members_utf8 : (later : Bool) (ms : Members) → MembersHaveTexts ms → IsUtf8 (members_text later ms)
  members_utf8 later no_members h = IsUtf8-are_ascii _ refl
  members_utf8 later (member k d ms) h =
      IsUtf8-append _ _ (comma_utf8 later) (IsUtf8-append _ _ (IsUtf8-quoted k h.0)
      (mark_utf8 58 _ (IsUtf8-are_ascii _ refl) (IsUtf8-append _ _ (text_utf8 d h.1) (members_utf8 true ms h.2))))

matchers_utf8 : (ms : List Matcher) → All IsMatcher ms → ItemsHaveTexts (items_of (map matcher_data ms))
matchers_utf8 [] h = tt
matchers_utf8 (m ∷ ms) h =
    let first = All-head IsMatcher m ms h in (
      (IsUtf8-are_ascii _ refl, tt, (IsUtf8-are_ascii _ refl, tt, (IsUtf8-are_ascii _ refl, first.name, (IsUtf8-are_ascii _ refl, first.pattern, tt)))),
      matchers_utf8 ms (All-tail IsMatcher m ms h),
    )

state_utf8 : (state : State) → IsUtf8 (state_text state)
state_utf8 states.Pending = IsUtf8-are_ascii _ refl
state_utf8 states.Active = IsUtf8-are_ascii _ refl
state_utf8 states.Expired = IsUtf8-are_ascii _ refl

moment_utf8 : {m : ℕ} {text : List ℕ} → WritesMoment m text → IsUtf8 text
moment_utf8 w =
    let bounds = real_bounds w.clock w.real in
    let below : w.nanos < 1_000_000_000 = w.parts.below_second in
    rw w.spelled (utf8_text w.clock (w.nanos / 1_000_000) w.real bounds.0 bounds.1 bounds.2 (omega arith))

gettable_utf8 : (s : Silence) (state : State) (d : Data) → IsSilence s → IsGettable s state d → HasTexts d
gettable_utf8 s state d h g = rw g.value (
  IsUtf8-are_ascii _ refl,
  h.comment,
  (
    IsUtf8-are_ascii _ refl,
    h.created_by,
    (
      IsUtf8-are_ascii _ refl,
      moment_utf8 g.ends_at,
      (
        IsUtf8-are_ascii _ refl,
        h.id,
        (
          IsUtf8-are_ascii _ refl,
          matchers_utf8 s.matchers h.matchers,
          (
            IsUtf8-are_ascii _ refl,
            moment_utf8 g.starts_at,
            (
              IsUtf8-are_ascii _ refl,
              (IsUtf8-are_ascii _ refl, state_utf8 state, tt),
              (
                IsUtf8-are_ascii _ refl,
                moment_utf8 g.updated_at,
                tt,
              ),
            ),
          ),
        ),
      ),
    ),
  ),
)

gettables_utf8 : (rows : List (Mesh × State)) (ds : List Data) → All (λ row. IsMesh row.0) rows → AreGettable rows ds → ItemsHaveTexts (items_of ds)
gettables_utf8 [] [] h g = tt
gettables_utf8 [] (d ∷ ds) h g = absurd g
gettables_utf8 (row ∷ rows) [] h g = absurd g
gettables_utf8 (row ∷ rows) (d ∷ ds) h g =
    let first = All-head (λ (r : Mesh × State). IsMesh r.0) row rows h in
    (gettable_utf8 row.0.silence row.1 d first.silence g.0, gettables_utf8 rows ds (All-tail (λ (r : Mesh × State). IsMesh r.0) row rows h) g.1)

pub list_utf8 : (rows : List (Mesh × State)) (ds : List Data) → All (λ row. IsMesh row.0) rows → AreGettable rows ds
    → IsUtf8 (compact_text (array (items_of ds)))
list_utf8 rows ds h g = text_utf8 (array (items_of ds)) (gettables_utf8 rows ds h g)
