-- The lines that give a version a label.
use Rattle.std.specs.Prelude.{ℕ, List, [], Result, Ok}
use Rattle.am_schedule.specs.declared.error.FaultKind.{FaultKind}
use Rattle.am_schedule.specs.declared.form.VersionForm.{VersionForm}
use Rattle.am_schedule.specs.declared.form.VersionForm.TheVariants as forms
use Rattle.am_schedule.specs.declared.step.SilenceLine.{SilenceLine}
use Rattle.am_schedule.specs.declared.step.LogLine.{LogLine}
use Rattle.am_schedule.specs.declared.step.VersionLine.{VersionLine}
use Rattle.am_schedule.specs.declared.step.VersionLine.TheVariants.{Silence, Log}
use Rattle.am_schedule.specs.Readings.{◌>>=◌}
use Rattle.am_schedule.specs.Rows.{by_row, no_version, silence_row, log_row}

-- the version of a silence in a line
unfoldable pub silence_in : List (List ℕ) → Result SilenceLine FaultKind
silence_in words = by_row [] no_version 2 silence_row words

-- the version of an entry in a line
unfoldable pub log_in : List (List ℕ) → Result LogLine FaultKind
log_in words = by_row [] no_version 2 log_row words

-- the version in a line, after its label
unfoldable pub version_in : VersionForm → List (List ℕ) → Result VersionLine FaultKind
version_in forms.Silence words = silence_in words >>= λ line. Ok (Silence line)
version_in forms.Log words = log_in words >>= λ line. Ok (Log line)
