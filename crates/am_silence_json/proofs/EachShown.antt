-- Silences that objects show, one after the other.
use Rattle.std.proofs.Common.{rules, ◌≡◌, ℕ, ◌+◌, ◌<◌, List, [], ◌∷◌, ◌++◌, length, take, get_or, map, Some, None, refl, sym, ap, ◌∙◌}
use Rattle.std.specs.Prelude.{All}
use Rattle.std.proofs.lemmas.List.{take_more, map-append, take-map}
use Rattle.std.proofs.lemmas.List.Elements.{All-nil, All-cons, All-head, All-tail}
use Rattle.std.proofs.lemmas.Option.{slice_get-map, slice_get-get_or}
use Rattle.serde_json.specs.Data.{Data, null, boolean, number, string, array, object, Items}
use Rattle.serde_json.specs.Find.{as_array}
use Rattle.serde_json.specs.View.{view, items_view}
use Rattle.serde_json.specs.declared.value.Value.{Value}
use Rattle.am_silence.specs.Mesh.{Mesh}
use Rattle.am_silence.specs.declared.matcher.Matcher.{Matcher}
use Rattle.am_silence_json.specs.declared.shown.ShownFields.{ShownFields}
use Rattle.am_silence_json.specs.Posts.{matchers_in}
use Rattle.am_silence_json.specs.Borrowed.{HasShown, shown_silence}
use Rattle.am_silence_json.specs.Shown.{IsShown, AreShown, FitsMessage, until_end, IsFirstUnshown}
use Rattle.am_silence_json.specs.declared.key.ShownKey.TheVariants as keys
use Rattle.am_silence_json.specs.Lists.{IsReadable, IsFirst, IsJsonText, IsListText}

shown_more : (ds : List Data) (ms : List Mesh) (d : Data) (m : Mesh) → AreShown ds ms → IsShown d m → AreShown (ds ++ d ∷ []) (ms ++ m ∷ [])
shown_more [] [] d m h here = (here, tt)
shown_more [] (n ∷ ms) d m h here = absurd h
shown_more (e ∷ ds) [] d m h here = absurd h
shown_more (e ∷ ds) (n ∷ ms) d m h here = (h.0, shown_more ds ms d m h.1 here)

pub one_shown :
    (vs : List Value) (i : ℕ) (v : Value) (ms : List Mesh) (m : Mesh) → i < length vs → v ≡ get_or vs i v
    → AreShown (map view (take i vs)) ms → IsShown (view v) m → AreShown (map view (take (i + 1) vs)) (ms ++ m ∷ [])
one_shown vs i v ms m h e before here =
    rw (take_more vs i v h, ← e, map-append view (take i vs) (v ∷ [])) (shown_more (map view (take i vs)) ms (view v) m before here)

are_readable : (ds : List Data) (ms : List Mesh) → AreShown ds ms → All FitsMessage ms → All IsReadable ds
are_readable [] [] h f = All-nil IsReadable
are_readable [] (m ∷ ms) h f = absurd h
are_readable (d ∷ ds) [] h f = absurd h
are_readable (d ∷ ds) (m ∷ ms) h f =
    All-cons IsReadable d ds (record { version = m; shown = h.0; fits = All-head FitsMessage m ms f })
    (are_readable ds ms h.1 (All-tail FitsMessage m ms f))

-- the object at fault is the first
pub first_at :
    (vs : List Value) (i : ℕ) (v : Value) (ms : List Mesh) → i < length vs → v ≡ get_or vs i v
    → AreShown (map view (take i vs)) ms → All FitsMessage ms → IsFirst (map view vs) i (view v)
first_at vs i v ms h e shown fits = record {
  here = rw (slice_get-map view vs i, slice_get-get_or vs i v h, ← e) refl;
  before = rw (take-map view i vs) (are_readable _ ms shown fits);
}

-- the object's matchers alone are wrong
pub first_unshown : (d : Data) (s : ShownFields) → HasShown d s → matchers_in d ≡ None → IsFirstUnshown d keys.Matchers
first_unshown d s h none = record {
  wrong = λ some. let no = rw none at some in absurd cc;
  before = (
    rw h.id (search rules),
    (
      (_, h.starts_at.here),
      (
        (_, h.ends_at.here),
        ((_, h.updated_at.here), (rw h.created_by (search rules), (rw h.comment (search rules), tt))),
      ),
    ),
  );
}

-- the version of an object's parts
pub whole_shown : (d : Data) (s : ShownFields) (ms : List Matcher) → HasShown d s → matchers_in d ≡ Some ms → IsShown d (until_end (shown_silence s ms))
whole_shown d s ms h matchers = record {
  id = h.id;
  starts_at = h.starts_at;
  ends_at = h.ends_at;
  updated_at = h.updated_at;
  created_by = h.created_by;
  comment = h.comment;
  matchers = matchers;
  expires_at = refl;
  unknown = refl;
}

array_is : (d : Data) (ds : Items) → as_array d ≡ Some ds → d ≡ array ds
array_is null ds e = cc
array_is (boolean b) ds e = cc
array_is (number n) ds e = cc
array_is (string s) ds e = cc
array_is (array es) ds e = let same : es ≡ ds = cc in ap array same
array_is (object ms) ds e = cc

-- the text of an array
pub list_text : (body : List ℕ) (v : Value) (vs : List Value) → IsJsonText body (view v) → Some (items_view vs) ≡ as_array (view v) → IsListText body (map view vs)
list_text body v vs h e = record { utf8 = h.utf8; text = h.text ∙ ap Some (array_is (view v) (items_view vs) (sym e)) }
