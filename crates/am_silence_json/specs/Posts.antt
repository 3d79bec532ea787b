-- The body of a post: `postableSilence` of API v2, a JSON object (RFC 8259). Keys that are not named here are ignored.
use Rattle.std.specs.Prelude.{◌≡◌, ℕ, ◌==◌, length, Bool, true, false, List, [], ◌∷◌, codes, Option, Some, None}
use Rattle.std.specs.Prelude.{option_map, option_and_then, if◌then◌else◌, IsSome}
use Rattle.std.specs.Option.{option_map_or}
use Rattle.std.specs.Str.{IsUtf8}
use Rattle.serde_json.specs.Data.{Data, null, boolean, number, string, array, object, Items, no_items, item}
use Rattle.serde_json.specs.Find.{get, as_str, as_bool, as_array, as_object}
use Rattle.serde_json.specs.Read.{read}
use Rattle.am_silence.specs.declared.matcher.Matcher.{Matcher}
use Rattle.am_silence.specs.declared.matcher.MatcherKind.{MatcherKind}
use Rattle.am_silence.specs.declared.matcher.MatcherKind.TheVariants as kinds
use Rattle.am_silence.specs.declared.plan.Posted.{Posted}
use Rattle.am_silence_json.specs.Moments.{ReadsMoment}
use Rattle.am_silence_json.specs.declared.key.JsonKey.{JsonKey}
use Rattle.am_silence_json.specs.declared.key.JsonKey.TheVariants as keys

-- the names of the keys
abbrev pub key_text : JsonKey → List ℕ
key_text keys.Id = codes "id"
key_text keys.Matchers = codes "matchers"
key_text keys.StartsAt = codes "startsAt"
key_text keys.EndsAt = codes "endsAt"
key_text keys.CreatedBy = codes "createdBy"
key_text keys.Comment = codes "comment"

-- the keys that are tested before a key
abbrev pub keys_before : JsonKey → List JsonKey
keys_before keys.Id = []
keys_before keys.Matchers = keys.Id ∷ []
keys_before keys.StartsAt = keys.Id ∷ keys.Matchers ∷ []
keys_before keys.EndsAt = keys.Id ∷ keys.Matchers ∷ keys.StartsAt ∷ []
keys_before keys.CreatedBy = keys.Id ∷ keys.Matchers ∷ keys.StartsAt ∷ keys.EndsAt ∷ []
keys_before keys.Comment = keys.Id ∷ keys.Matchers ∷ keys.StartsAt ∷ keys.EndsAt ∷ keys.CreatedBy ∷ []

-- ---- the values of keys

-- the text at a key
abbrev pub text_in : List ℕ → Data → Option (List ℕ)
text_in key d = option_and_then as_str (get key d)

-- the boolean at a key
abbrev pub truth_in : List ℕ → Data → Option Bool
truth_in key d = option_and_then as_bool (get key d)

-- the value of a key is the text of a moment
pub record HasMoment (key : List ℕ) (d : Data) (m : ℕ) : Type 0 where
  pub text : List ℕ
  pub here : text_in key d ≡ Some text
  pub spelled : ReadsMoment text m

-- the identifier in a value: null and the empty text mean none
abbrev pub id_of : Data → Option (Option (List ℕ))
id_of null = Some None
id_of (boolean b) = None
id_of (number n) = None
id_of (string s) = Some (if length s == 0 then None else Some s)
id_of (array ds) = None
id_of (object ms) = None

-- the posted identifier, which may be missing
abbrev pub id_in : Data → Option (Option (List ℕ))
id_in d = option_map_or id_of (get (codes "id") d) (Some None)

-- ---- matchers

-- the kind given by isRegex and isEqual
abbrev pub kind_of : Bool → Bool → MatcherKind
kind_of false true = kinds.Equal
kind_of true true = kinds.Regexp
kind_of false false = kinds.NotEqual
kind_of true false = kinds.NotRegexp

-- isEqual, which is true if it is missing
abbrev pub equal_in : Data → Option Bool
equal_in d = option_map_or as_bool (get (codes "isEqual") d) (Some true)

-- the matcher in a value: the texts name and value, isRegex and isEqual
abbrev pub matcher_of : Data → Option Matcher
matcher_of d =
    option_and_then (λ name. option_and_then (λ pattern. option_and_then (λ regex. option_map (λ equal.
    record { kind = kind_of regex equal; name = name; pattern = pattern })
    (equal_in d)) (truth_in (codes "isRegex") d)) (text_in (codes "value") d)) (text_in (codes "name") d)

-- the matchers in items, if all of them are matchers
abbrev pub matchers_of : Items → Option (List Matcher)
matchers_of no_items = Some []
matchers_of (item d ds) = option_and_then (λ m. option_map (λ ms. m ∷ ms) (matchers_of ds)) (matcher_of d)

-- the list of matchers
abbrev pub matchers_in : Data → Option (List Matcher)
matchers_in d = option_and_then matchers_of (option_and_then as_array (get (codes "matchers") d))

-- ---- posts

-- the object posts this silence
pub record IsPosted (d : Data) (posted : Posted) : Type 0 where
  pub id : id_in d ≡ Some posted.id
  pub matchers : matchers_in d ≡ Some posted.matchers
  pub starts_at : HasMoment (codes "startsAt") d posted.starts_at
  pub ends_at : HasMoment (codes "endsAt") d posted.ends_at
  pub created_by : text_in (codes "createdBy") d ≡ Some posted.created_by
  pub comment : text_in (codes "comment") d ≡ Some posted.comment

-- the value of a key is of the right kind
abbrev pub IsRight : Data → JsonKey → Type 0
IsRight d keys.Id = IsSome (id_in d)
IsRight d keys.Matchers = IsSome (matchers_in d)
IsRight d keys.StartsAt = (m : ℕ) × HasMoment (codes "startsAt") d m
IsRight d keys.EndsAt = (m : ℕ) × HasMoment (codes "endsAt") d m
IsRight d keys.CreatedBy = IsSome (text_in (codes "createdBy") d)
IsRight d keys.Comment = IsSome (text_in (codes "comment") d)

-- the values of these keys are of the right kind
abbrev pub AreRight : Data → List JsonKey → Type 0
AreRight d [] = Unit {0}
AreRight d (key ∷ others) = IsRight d key × AreRight d others

-- the value of the key is missing or of another kind, and those of the keys before it are right
pub record IsFirstWrong (d : Data) (key : JsonKey) : Type 0 where
  pub wrong : ¬ IsRight d key
  pub before : AreRight d (keys_before key)

-- the body is the text of this object
pub record IsObjectText (body : List ℕ) (d : Data) : Type 0 where
  pub utf8 : IsUtf8 body
  pub text : read body ≡ Some d
  pub is_object : IsSome (as_object d)
