-- The lines that are steps, and the other lines after the cluster's.
use Rattle.std.specs.Prelude.{ℕ, List, [], length, Option, Result, Ok, Err, ◌==◌, codes, if◌then◌else◌}
use Rattle.am_schedule.specs.declared.error.FaultKind.{FaultKind}
use Rattle.am_schedule.specs.declared.error.FaultKind.TheVariants as faults
use Rattle.am_schedule.specs.declared.form.LineForm.{LineForm}
use Rattle.am_schedule.specs.declared.form.LineForm.TheVariants as forms
use Rattle.am_schedule.specs.declared.step.VersionLine.{VersionLine}
use Rattle.am_schedule.specs.declared.step.PostLine.{PostLine}
use Rattle.am_schedule.specs.declared.step.GroupLine.{GroupLine}
use Rattle.am_schedule.specs.declared.step.LineEvent.{LineEvent}
use Rattle.am_schedule.specs.declared.step.Action.TheVariants as actions
use Rattle.am_schedule.specs.declared.step.Line.{Line}
use Rattle.am_schedule.specs.declared.step.Line.TheVariants as kinds
use Rattle.am_schedule.specs.declared.form.Verb.{Verb}
use Rattle.am_schedule.specs.Readings.{◌>>=◌, or_fault}
use Rattle.am_schedule.specs.Words.{word_at, has_word}
use Rattle.am_schedule.specs.Slots.{moment, number, member, value_at}
use Rattle.am_schedule.specs.Rows.{by_row, no_version, post_row, group_row, event_row, stop_row, save_row, lose_row, timely_row, frames_row}
use Rattle.am_schedule.specs.Forms.{verb_in}

-- the meaning of a post, after its verb
unfoldable pub post_in : List (List ℕ) → Result PostLine FaultKind
post_in words = by_row [] no_version 4 post_row words

-- the meaning of a notification or a decision, after its verb
unfoldable pub group_in : List (List ℕ) → Result GroupLine FaultKind
group_in words = by_row [] no_version 4 group_row words

-- the meaning of the words after a verb
unfoldable pub event_in : List (List ℕ) → (List ℕ → Option VersionLine) → Verb → List (List ℕ) → Result LineEvent FaultKind
event_in names version verb words = by_row names version 4 (event_row verb) words

-- at T NAME VERB ..
unfoldable pub member_line_in : List (List ℕ) → (List ℕ → Option VersionLine) → List (List ℕ) → Result Line FaultKind
member_line_in names version words = do
  verb ← or_fault faults.Words (verb_in words)
  at ← value_at names moment (word_at 1 words)
  name ← value_at names member (word_at 2 words)
  event ← event_in names version verb words
  Ok (kinds.Step (actions.Event at name event))

-- at T deliver N
unfoldable pub deliver_in : List (List ℕ) → Result Line FaultKind
deliver_in words =
    if length words == 4
    then (value_at [] moment (word_at 1 words) >>= λ at. value_at [] number (word_at 3 words) >>= λ frame.
    Ok (kinds.Step (actions.Deliver at frame)))
    else Err faults.Words

-- at T settle
unfoldable pub settle_in : List (List ℕ) → Result Line FaultKind
settle_in words = if length words == 3 then (value_at [] moment (word_at 1 words) >>= λ at. Ok (kinds.Settle at)) else Err faults.Words

-- a line that begins with `at`: no member is called `deliver` or `settle`
unfoldable pub at_line_in : List (List ℕ) → (List ℕ → Option VersionLine) → List (List ℕ) → Result Line FaultKind
at_line_in names version words =
    if has_word 2 (codes "deliver") words then deliver_in words else
    if has_word 2 (codes "settle") words then settle_in words else member_line_in names version words

-- a line that is neither the cluster's nor a version's
unfoldable pub line_in : List (List ℕ) → (List ℕ → Option VersionLine) → LineForm → List (List ℕ) → Result Line FaultKind
line_in names version forms.At words = at_line_in names version words
line_in names version forms.Stop words = by_row names version 1 stop_row words
line_in names version forms.Save words = by_row names version 1 save_row words
line_in names version forms.Lose words = by_row names version 1 lose_row words
line_in names version forms.Timely words = by_row names version 1 timely_row words
line_in names version forms.Frames words = by_row names version 1 frames_row words
