-- The errors of the system, as faults of a file.
use Rattle.std.specs.declared.io.ErrorKind.{ErrorKind}
use Rattle.std.specs.declared.io.ErrorKind.TheVariants.{OutOfMemory}
use Rattle.am_snapshot.specs.declared.error.SnapshotError.TheVariants.{Memory}
use Rattle.am_store.specs.declared.file_fault.FileFault.{FileFault}
use Rattle.am_store.specs.declared.file_fault.FileFault.TheVariants.{File, Snapshot}

-- lack of memory is a fault of the snapshot, and anything else the kind of the system's error
abbrev pub file_fault_of : ErrorKind → FileFault
file_fault_of OutOfMemory = Snapshot Memory
file_fault_of kind = File kind
