-- The schedules that have a picture, and the faults of those that don't.
use Rattle.std.specs.Prelude.{◌≡◌, ◌≢◌, ◌⊎◌, ℕ, ◌<◌, ◌≤◌, List, length, Ok, Err, string_bytes}
use Rattle.am_schedule.specs.declared.error.FaultKind.TheVariants as kinds
use Rattle.am_schedule.specs.declared.schedule.Schedule.{Schedule}
use Rattle.am_schedule.specs.Schedules.{IsReached, schedule_of}
use Rattle.am_replay.specs.declared.error.ReplayError.{ReplayError}
use Rattle.am_replay.specs.declared.error.ReplayError.TheVariants.{Schedule as InSchedule, Memory}
use Rattle.am_replay.specs.Playing.{IsHaltedAt, IsOutput}
use Rattle.am_player.specs.declared.drawing.Drawing.{Drawing}
use Rattle.am_player.specs.declared.drawing.Drawing.TheVariants.{Drawn, TooManySteps}

-- The text is a schedule of at most 2,000 steps.
pub record IsPictured (text : List ℕ) : Type 0 where
  pub schedule : Schedule
  pub said : schedule_of text ≡ Ok schedule
  pub few : length schedule.lines ≤ 2000

-- The text is a schedule, and this is what its playing prints beside a picture.
abbrev pub IsPrinted : List ℕ → List ℕ → Type 0
IsPrinted text printed = (schedule : Schedule) × (schedule_of text ≡ Ok schedule) × IsOutput schedule printed

-- The outcome of drawing the text: it is played and drawn, or it has this many steps, more than 2,000.
abbrev pub IsDrawing : List ℕ → Drawing → Type 0
IsDrawing text (Drawn picture output) = IsPictured text × IsPrinted text (string_bytes output)
IsDrawing text (TooManySteps steps) =
    (schedule : Schedule) × (schedule_of text ≡ Ok schedule) × (steps ≡ length schedule.lines) × (2000 < steps)

-- The fault for which there is no outcome: a line is at fault; or memory ran out at a line, while it was read or while it was
-- played, or at no line.
abbrev pub StopsPicture : List ℕ → ReplayError → Type 0
StopsPicture text (InSchedule error) = (error.kind ≢ kinds.Memory) × (schedule_of text ≡ Err error)
StopsPicture text (Memory line) =
    IsReached text line ⊎ ((schedule : Schedule) × (schedule_of text ≡ Ok schedule) × IsHaltedAt schedule line)
StopsPicture text _ = ⊥
