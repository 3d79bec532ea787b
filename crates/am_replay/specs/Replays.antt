-- The replay of a schedule from a reader to a writer, and the state of both if it stops.
use Rattle.std.specs.Prelude.{◌≡◌, ◌≢◌, ◌⊎◌, ℕ, ◌<◌, ◌≤◌, List, length, take, Option, IfSome, Ok, Err}
use Rattle.std.specs.Io.KnownBytes.{Appends}
use Rattle.am_schedule.specs.declared.error.FaultKind.TheVariants as kinds
use Rattle.am_schedule.specs.declared.error.ScheduleError.{ScheduleError}
use Rattle.am_schedule.specs.declared.schedule.Schedule.{Schedule}
use Rattle.am_schedule.specs.Schedules.{IsReached, schedule_of}
use Rattle.am_replay.specs.declared.error.ReplayError.{ReplayError}
use Rattle.am_replay.specs.declared.error.ReplayError.TheVariants.{Read, Schedule as InSchedule, TooLarge, Memory, Write}
use Rattle.am_replay.specs.Inputs.{FailsBehind, IsTooLong, most_bytes}
use Rattle.am_replay.specs.Playing.{IsHaltedAt, IsOutput}

-- The text is what a replay of an input prints.
pub record IsReplay (input text : List ℕ) : Type 0 where
  -- The input is a schedule, and not too long.
  pub size : length input ≤ most_bytes
  pub schedule : Schedule
  pub said : schedule_of input ≡ Ok schedule
  -- The text is everything that its playing prints.
  pub output : IsOutput schedule text

-- The input has a line at fault.
pub record IsFaulty (input : List ℕ) (error : ScheduleError) : Type 0 where
  pub size : length input ≤ most_bytes
  pub no_want : error.kind ≢ kinds.Memory
  pub said : schedule_of input ≡ Err error

-- Memory ran out at this line of the input, while it was read or while it was played.
pub record IsWanting (input : List ℕ) (line : ℕ) : Type 0 where
  pub size : length input ≤ most_bytes
  pub reached : IsReached input line ⊎ ((schedule : Schedule) × (schedule_of input ≡ Ok schedule) × IsHaltedAt schedule line)

-- A replay was written: `start` is what the reader had to give, and `before` and `after` are the writer's contents.
pub record HasReplayed (start before after : Option (List ℕ)) : Type 0 where
  -- the text that was written
  pub text : List ℕ
  pub out : Appends before after text
  -- The text is what a replay of the input prints.
  pub printed : IfSome start (λ input. IsReplay input text)

-- Only the first `written` bytes of the output were written.
pub record IsCutOff (start before after : Option (List ℕ)) (written : ℕ) : Type 0 where
  pub text : List ℕ
  pub short : written < length text
  pub out : Appends before after (take written text)
  pub printed : IfSome start (λ input. IsReplay input text)

-- The way that a replay stops: `start` is what the reader had to give, `left` is what it has left, and `contents` is what a writer
-- holds.
pub record StopsReplay (start left : Option (List ℕ)) {W : Type 0} (contents : W → Option (List ℕ)) (old new : W) (fault : ReplayError) : Type 0 where
  -- A read failed after `at` bytes.
  pub read : (at : ℕ) → fault ≡ Read at → FailsBehind start left at
  -- The reader gave one byte too many.
  pub too_large : fault ≡ TooLarge → IsTooLong start left
  -- A line of the input is at fault.
  pub in_schedule : (error : ScheduleError) → fault ≡ InSchedule error → IfSome start (λ input. IsFaulty input error)
  -- Memory ran out at a line of the input, or at none.
  pub memory : (line : ℕ) → fault ≡ Memory line → (line ≡ 0) ⊎ IfSome start (λ input. IsWanting input line)
  -- A write failed or took nothing after `written` bytes of the output.
  pub write : (written : ℕ) → fault ≡ Write written → IsCutOff start (contents old) (contents new) written
  -- With any other fault nothing was written.
  pub unwritten : ((written : ℕ) → fault ≢ Write written) → new ≡ old
