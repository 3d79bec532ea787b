-- The system's answers about a path.
use Rattle.std.specs.Prelude.{Bool, true, false, Result, Ok, Err}
use Rattle.std.specs.IoError.{error_kind}
use Rattle.std.specs.declared.io.Error.{Error}
use Rattle.std.specs.declared.io.ErrorKind.{ErrorKind}
use Rattle.std.specs.declared.io.ErrorKind.TheVariants.{NotFound}
use Rattle.am_store.specs.Faults.{file_fault_of}
use Rattle.am_store.specs.declared.file_fault.FileFault.{FileFault}
use Rattle.am_store.specs.declared.file_fault.FileFault.TheVariants.{NotAFile}

-- true if the answer is that no file is there
abbrev pub is_missed : Result Bool FileFault → Bool
is_missed (Ok false) = true
is_missed _ = false

-- nothing is there, or the system doesn't say what is
abbrev pub is_missing : ErrorKind → Result Bool FileFault
is_missing NotFound = Ok false
is_missing kind = Err (file_fault_of kind)

-- true if a file is there; anything other than a file is a fault, and so is any error but that nothing is there
abbrev pub is_found : Result Bool Error → Result Bool FileFault
is_found (Ok true) = Ok true
is_found (Ok false) = Err NotAFile
is_found (Err error) = is_missing (error_kind error)
