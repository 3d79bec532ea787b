-- A fault in a schedule's text, as a fault of playing the schedule.
use Rattle.am_schedule.specs.declared.error.FaultKind.{FaultKind}
use Rattle.am_schedule.specs.declared.error.FaultKind.TheVariants as kinds
use Rattle.am_schedule.specs.declared.error.ScheduleError.{ScheduleError}
use Rattle.am_replay.specs.declared.error.ReplayError.{ReplayError}
use Rattle.am_replay.specs.declared.error.ReplayError.TheVariants as errors

-- the fault of playing a schedule whose text has a fault; if memory ran out, it says so, with the line
abbrev pub schedule_fault : FaultKind → ScheduleError → ReplayError
schedule_fault kinds.NotUtf8 error = errors.Schedule error
schedule_fault kinds.Cluster error = errors.Schedule error
schedule_fault kinds.Words error = errors.Schedule error
schedule_fault kinds.Number error = errors.Schedule error
schedule_fault kinds.Name error = errors.Schedule error
schedule_fault kinds.Memory error = errors.Memory error.line
