-- The body of a reply to `GET /api/v2/silences`: the text of an array of silences in JSON (RFC 8259). Places count from 0.
use Rattle.std.specs.Prelude.{◌≡◌, ℕ, List, All, Some, None, slice_get, take}
use Rattle.std.specs.Str.{IsUtf8}
use Rattle.serde_json.specs.Data.{Data, array}
use Rattle.serde_json.specs.Find.{as_array}
use Rattle.serde_json.specs.Read.{read}
use Rattle.serde_json.specs.View.{items_of}
use Rattle.am_silence.specs.declared.state.State.{State}
use Rattle.am_silence.specs.Mesh.{Mesh}
use Rattle.am_silence_json.specs.declared.key.ShownKey.{ShownKey}
use Rattle.am_silence_json.specs.declared.list_error.ListError.{ListError}
use Rattle.am_silence_json.specs.declared.list_error.ListError.TheVariants as errors
use Rattle.am_silence_json.specs.Shown.{IsShown, AreShown, FitsMessage, cut_to_shown, IsFirstUnshown, IsTooLarge}

-- the body is the text of this value
pub record IsJsonText (body : List ℕ) (d : Data) : Type 0 where
  pub utf8 : IsUtf8 body
  pub text : read body ≡ Some d

-- the body is the text of an array of these values
abbrev pub IsListText : List ℕ → List Data → Type 0
IsListText body ds = IsJsonText body (array (items_of ds))

-- the body is the text of a value that is not an array
pub record IsNoList (body : List ℕ) : Type 0 where
  pub value : Data
  pub text : IsJsonText body value
  pub no_array : as_array value ≡ None

-- the body lists these versions
pub record Lists (body : List ℕ) (ms : List Mesh) : Type 0 where
  pub objects : List Data
  pub text : IsListText body objects
  pub shown : AreShown objects ms

-- the object shows a version that is not too large
pub record IsReadable (d : Data) : Type 0 where
  pub version : Mesh
  pub shown : IsShown d version
  pub fits : FitsMessage version

-- this object stands at this place, and all objects before it are readable
pub record IsFirst (ds : List Data) (place : ℕ) (d : Data) : Type 0 where
  pub here : slice_get ds place ≡ Some d
  pub before : All IsReadable (take place ds)

-- the first object that can't be read shows no version, and this is its first wrong key
pub record IsWrongAt (ds : List Data) (place : ℕ) (key : ShownKey) : Type 0 where
  pub object : Data
  pub first : IsFirst ds place object
  pub wrong : IsFirstUnshown object key

-- the first object that can't be read shows a version that is too large
pub record IsTooLargeAt (ds : List Data) (place : ℕ) : Type 0 where
  pub object : Data
  pub first : IsFirst ds place object
  pub large : IsTooLarge object

-- the error says that the shown version of a row is too large
pub record IsRowTooLarge (rows : List (Mesh × State)) (e : ListError) : Type 0 where
  pub place : ℕ
  pub row : Mesh × State
  pub error : e ≡ errors.TooLarge place
  pub here : slice_get rows place ≡ Some row
  pub large : ¬ FitsMessage (cut_to_shown row.0)
