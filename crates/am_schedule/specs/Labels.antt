-- Labels of versions.
use Rattle.std.specs.Prelude.{ℕ, Bool, List, [], ◌∷◌, length, Option, Some, None, Result, Ok, Err, filter_map, nat_lt, ◌&&◌}
use Rattle.am_schedule.specs.declared.error.FaultKind.{FaultKind}
use Rattle.am_schedule.specs.declared.error.FaultKind.TheVariants.{Words, Name}
use Rattle.am_schedule.specs.declared.step.SilenceLine.{SilenceLine}
use Rattle.am_schedule.specs.declared.step.LogLine.{LogLine}
use Rattle.am_schedule.specs.declared.step.VersionLine.{VersionLine}
use Rattle.am_schedule.specs.declared.step.VersionLine.TheVariants.{Silence, Log}
use Rattle.am_schedule.specs.declared.step.Versions.{Versions}
use Rattle.am_schedule.specs.declared.step.Versions.TheVariants as states
use Rattle.am_schedule.specs.Readings.{◌>>=◌, or_fault}
use Rattle.am_schedule.specs.Lists.{values}
use Rattle.am_schedule.specs.Words.{is_short}

-- a label is any text but the empty one
abbrev pub is_label : List ℕ → Bool
is_label word = nat_lt 0 (length word) && is_short word

-- the version of a silence, if the line is one
abbrev pub silence_of : VersionLine → Option SilenceLine
silence_of (Silence line) = Some line
silence_of (Log line) = None

-- the version of an entry, if the line is one
abbrev pub log_of : VersionLine → Option LogLine
log_of (Silence line) = None
log_of (Log line) = Some line

-- versions that all belong to one state
abbrev pub of_one_state : List SilenceLine → List LogLine → Result Versions FaultKind
of_one_state silences [] = Ok (states.Silences silences)
of_one_state [] (line ∷ lines) = Ok (states.Log (line ∷ lines))
of_one_state (silence ∷ silences) (line ∷ lines) = Err Words

-- the versions of labels, each of which `version` has to know
unfoldable pub versions_in : (List ℕ → Option VersionLine) → List (List ℕ) → Result Versions FaultKind
versions_in version labels =
    or_fault Name (values version labels) >>= λ found. of_one_state (filter_map silence_of found) (filter_map log_of found)
