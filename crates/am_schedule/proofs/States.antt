-- Versions that are read one after the other.
use Rattle.std.proofs.Common.{◌≡◌, List, [], ◌∷◌, ◌++◌, Option, Some, None, Result, Ok, Err, refl, append_assoc}
use Rattle.std.proofs.lemmas.List.{append-nil}
use Rattle.std.specs.Prelude.{option_map, filter_map}
use Rattle.am_schedule.specs.declared.error.FaultKind.{FaultKind}
use Rattle.am_schedule.specs.declared.error.FaultKind.TheVariants.{Name}
use Rattle.am_schedule.specs.declared.step.SilenceLine.{SilenceLine}
use Rattle.am_schedule.specs.declared.step.LogLine.{LogLine}
use Rattle.am_schedule.specs.declared.step.VersionLine.{VersionLine}
use Rattle.am_schedule.specs.declared.step.VersionLine.TheVariants.{Silence, Log}
use Rattle.am_schedule.specs.declared.step.Versions.{Versions}
use Rattle.am_schedule.specs.Readings.{◌>>=◌, or_fault, GivesUnlessMemory}
use Rattle.am_schedule.specs.Labels.{of_one_state, silence_of, log_of}

-- versions, and those that come behind them
abbrev pub states_behind : List SilenceLine → List LogLine → Option (List VersionLine) → Result Versions FaultKind
states_behind silences lines later = or_fault Name later >>= λ found. of_one_state (silences ++ filter_map silence_of found) (lines ++ filter_map log_of found)

-- one more version
pub version_behind : (silences : List SilenceLine) (lines : List LogLine) (version : VersionLine) (later : Option (List VersionLine))
    → states_behind (silences ++ filter_map silence_of (version ∷ [])) (lines ++ filter_map log_of (version ∷ [])) later ≡ states_behind silences lines (option_map (λ found. version ∷ found) later)
version_behind silences lines version None = refl
version_behind silences lines (Silence line) (Some found) = simp (append_assoc, append-nil)
version_behind silences lines (Log line) (Some found) = simp (append_assoc, append-nil)

-- no version more
pub all_behind : (silences : List SilenceLine) (lines : List LogLine) → states_behind silences lines (Some []) ≡ of_one_state silences lines
all_behind silences lines = simp append-nil

-- what is read, whether memory runs out or not
pub gives_read : {A : Type 0} → (given read : Result A FaultKind) → given ≡ read → GivesUnlessMemory given read
gives_read (Ok x) read is = cc
gives_read (Err kind) read is = λ other. cc
