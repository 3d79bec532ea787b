-- Reading one thing after another: the first fault decides.
use Rattle.std.specs.Prelude.{◌≡◌, ◌≢◌, Option, Some, None, Result, Ok, Err}
use Rattle.am_schedule.specs.declared.error.FaultKind.{FaultKind}
use Rattle.am_schedule.specs.declared.error.FaultKind.TheVariants.{Memory}

-- a step after one that may fail
infixl 10 ◌>>=◌
abbrev pub ◌>>=◌ : {A B : Type 0} → Result A FaultKind → (A → Result B FaultKind) → Result B FaultKind
(Ok x) >>= f = f x
(Err kind) >>= f = Err kind

-- the value, or a fault if there is none
abbrev pub or_fault : {A : Type 0} → FaultKind → Option A → Result A FaultKind
or_fault kind (Some x) = Ok x
or_fault kind None = Err kind

-- a value, or else another
abbrev pub or_else : {A : Type 0} → Option A → Option A → Option A
or_else (Some x) other = Some x
or_else None other = other

-- a call returns what is read, unless memory ran out
abbrev pub GivesUnlessMemory : {A : Type 0} → Result A FaultKind → Result A FaultKind → Type 0
GivesUnlessMemory (Ok x) read = read ≡ Ok x
GivesUnlessMemory (Err kind) read = kind ≢ Memory → read ≡ Err kind
