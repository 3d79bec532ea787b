-- The text of the view of two maps at a moment: the held versions that are live, a line for each.
use Rattle.std.specs.Prelude.{◌≡◌, ℕ, ◌<◌, List, [], ◌++◌, length, take, Option, Some, None, codes}
use Rattle.std.specs.Io.KnownBytes.{Appends}
use Rattle.std.specs.List.{flat_map}
use Rattle.std.specs.Fmt.{decimal}
use Rattle.am_silence.specs.Mesh.{Mesh, mesh_version}
use Rattle.am_silence.specs.States.{state_of}
use Rattle.am_silence.specs.declared.state.State.{State}
use Rattle.am_silence.specs.declared.state.State.TheVariants.{Pending, Active, Expired}
use Rattle.am_nflog.specs.Mesh.{Mesh as LogMesh, mesh_version as entry_version}
use Rattle.am_nflog.specs.LogKeys.{LogKey}
use Rattle.am_merge.specs.Maps.{swept}
use Rattle.am_snapshot.specs.declared.error.SnapshotError.{SnapshotError}
use Rattle.am_snapshot.specs.declared.error.SnapshotError.TheVariants.{Write, Memory}
use Rattle.am_report.specs.Words.{word_of}
use Rattle.am_report.specs.Lists.{numbers_word}

-- the name of the instance with which each line begins, if one is given
abbrev pub owner_words : Option (List ℕ) → List ℕ
owner_words None = []
owner_words (Some name) = word_of name ++ codes " "

-- the name of a state
abbrev pub state_word : State → List ℕ
state_word Pending = codes "pending"
state_word Active = codes "active"
state_word Expired = codes "expired"

-- NAME shows S L: how many silences and how many entries are in view, if a name is given
unfoldable pub shows_line : Option (List ℕ) → ℕ → ℕ → List ℕ
shows_line None silences entries = []
shows_line (Some name) silences entries = word_of name ++ codes " shows " ++ decimal silences ++ codes " " ++ decimal entries ++ codes "\n"

-- NAME sil ID STATE: a silence that has this state
unfoldable pub silence_line : Option (List ℕ) → Mesh → State → List ℕ
silence_line name m state = owner_words name ++ codes "sil " ++ word_of m.silence.id ++ codes " " ++ state_word state ++ codes "\n"

-- GROUP GROUPNAME INTEGRATION IDX: the key of an entry
unfoldable pub key_words : LogKey → List ℕ
key_words key =
    word_of key.group_key ++ codes " " ++ word_of key.receiver.group_name ++ codes " " ++ word_of key.receiver.integration
    ++ codes " " ++ decimal key.receiver.idx

-- NAME nfl GROUP GROUPNAME INTEGRATION IDX FIRING RESOLVED: an entry of the log
unfoldable pub entry_line : Option (List ℕ) → LogMesh → List ℕ
entry_line name m =
    owner_words name ++ codes "nfl " ++ key_words m.entry.key ++ codes " " ++ numbers_word m.entry.firing_alerts
    ++ codes " " ++ numbers_word m.entry.resolved_alerts ++ codes "\n"

-- the lines of the silences in view by id, with their states at the moment
abbrev pub silence_lines : Option (List ℕ) → ℕ → List Mesh → List ℕ
silence_lines name now silences = flat_map (λ m. silence_line name m (state_of m.silence now)) (swept mesh_version now silences)

-- the lines of the entries in view by key
abbrev pub entry_lines : Option (List ℕ) → ℕ → List LogMesh → List ℕ
entry_lines name now log = flat_map (entry_line name) (swept entry_version now log)

-- all lines of the view
abbrev pub view_text : Option (List ℕ) → ℕ → List Mesh → List LogMesh → List ℕ
view_text name now silences log =
    shows_line name (length (swept mesh_version now silences)) (length (swept entry_version now log))
    ++ silence_lines name now silences ++ entry_lines name now log

-- the lines of silences with their states, as they are shown
abbrev pub state_lines : Option (List ℕ) → List (Mesh × State) → List ℕ
state_lines name silences = flat_map (λ shown. silence_line name shown.0 shown.1) silences

-- all lines of what is shown: silences with their states, and entries
abbrev pub shown_text : Option (List ℕ) → List (Mesh × State) → List LogMesh → List ℕ
shown_text name silences log =
    shows_line name (length silences) (length log) ++ state_lines name silences ++ flat_map (entry_line name) log

-- Exactly the first bytes of the text went out, and not all; or memory ran out, and the writer is as it was. `contents` is what it holds.
abbrev pub StopsWriting : {W : Type 0} → (W → Option (List ℕ)) → W → W → List ℕ → SnapshotError → Type 0
StopsWriting contents old new text (Write k) = (k < length text) × Appends (contents old) (contents new) (take k text)
StopsWriting contents old new text Memory = new ≡ old
StopsWriting contents old new text _ = ⊥
