-- Silences as API v2 shows them: `gettableSilence`, as JSON data (RFC 8259) with the keys of each object in byte order.
use Rattle.std.specs.Prelude.{◌≡◌, ℕ, Bool, true, false, List, [], ◌∷◌, map, codes}
use Rattle.serde_json.specs.Data.{Data, boolean, string, array, object, member, no_members}
use Rattle.serde_json.specs.View.{items_of}
use Rattle.am_silence.specs.declared.matcher.Matcher.{Matcher}
use Rattle.am_silence.specs.declared.matcher.MatcherKind.{MatcherKind}
use Rattle.am_silence.specs.declared.matcher.MatcherKind.TheVariants as kinds
use Rattle.am_silence.specs.declared.silence.Silence.{Silence}
use Rattle.am_silence.specs.declared.state.State.{State}
use Rattle.am_silence.specs.declared.state.State.TheVariants as states
use Rattle.am_silence.specs.Kinds.{is_regexp}
use Rattle.am_silence.specs.Mesh.{Mesh}
use Rattle.am_silence_json.specs.Written.{WritesMoment}

-- isEqual: true if the label has to match
abbrev pub is_equal : MatcherKind → Bool
is_equal kinds.Equal = true
is_equal kinds.Regexp = true
is_equal kinds.NotEqual = false
is_equal kinds.NotRegexp = false

-- the JSON data of a matcher
abbrev pub matcher_data : Matcher → Data
matcher_data m =
    object (
    member (codes "isEqual") (boolean (is_equal m.kind)) (
    member (codes "isRegex") (boolean (is_regexp m.kind)) (
    member (codes "name") (string m.name) (
    member (codes "value") (string m.pattern) no_members))))

-- the name of a state
abbrev pub state_text : State → List ℕ
state_text states.Pending = codes "pending"
state_text states.Active = codes "active"
state_text states.Expired = codes "expired"

-- the JSON data of a status
abbrev pub status_data : State → Data
status_data state = object (member (codes "state") (string (state_text state)) no_members)

-- the JSON data of a silence in a state, with the texts of its start, its end and its update
abbrev pub gettable_data : Silence → State → List ℕ → List ℕ → List ℕ → Data
gettable_data s state starts ends updated =
    object (
    member (codes "comment") (string s.comment) (
    member (codes "createdBy") (string s.created_by) (
    member (codes "endsAt") (string ends) (
    member (codes "id") (string s.id) (
    member (codes "matchers") (array (items_of (map matcher_data s.matchers))) (
    member (codes "startsAt") (string starts) (
    member (codes "status") (status_data state) (
    member (codes "updatedAt") (string updated) no_members))))))))

-- the data shows the silence in that state
pub record IsGettable (silence : Silence) (state : State) (d : Data) : Type 0 where
  pub starts : List ℕ
  pub ends : List ℕ
  pub updated : List ℕ
  pub starts_at : WritesMoment silence.starts_at starts
  pub ends_at : WritesMoment silence.ends_at ends
  pub updated_at : WritesMoment silence.updated_at updated
  pub value : d ≡ gettable_data silence state starts ends updated

-- the data shows these silences, one after another
abbrev pub AreGettable : List (Mesh × State) → List Data → Type 0
AreGettable [] [] = Unit {0}
AreGettable [] (d ∷ ds) = ⊥
AreGettable (row ∷ rows) [] = ⊥
AreGettable (row ∷ rows) (d ∷ ds) = IsGettable row.0.silence row.1 d × AreGettable rows ds

-- the JSON data of the reply to a post
abbrev pub posted_data : List ℕ → Data
posted_data id = object (member (codes "silenceID") (string id) no_members)
