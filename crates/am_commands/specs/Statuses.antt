-- The exit status of the program if a command stopped.
use Rattle.std.specs.Prelude.{ℕ}
use Rattle.am_diagnostics.specs.Statuses.{fault_status, file_status, row_status}
use Rattle.am_commands.specs.declared.fault.SourceFault.{SourceFault}
use Rattle.am_commands.specs.declared.fault.SourceFault.TheVariants.{Own, Log, Words}
use Rattle.am_commands.specs.declared.fault.Stopped.{Stopped}
use Rattle.am_commands.specs.declared.fault.Stopped.TheVariants as stopped

-- of a source at fault; what a replica said is refused
abbrev pub source_status : SourceFault → ℕ
source_status (Own fault) = fault_status fault
source_status (Log path fault) = file_status fault
source_status (Words words) = 1

-- of the fault that stopped it
abbrev pub stopped_status : Stopped → ℕ
stopped_status (stopped.Source number fault) = source_status fault
stopped_status (stopped.Output error) = row_status error
