-- The results of calls, apart from running out of memory.
use Rattle.std.specs.Prelude.{◌≡◌, ◌≢◌, Result, Ok, Err}
use Rattle.am_memberlist.specs.declared.lzw_error.LzwError.{LzwError}
use Rattle.am_memberlist.specs.declared.lzw_error.LzwError.TheVariants as lzw
use Rattle.am_wire.specs.declared.error.WireError.{WireError}
use Rattle.am_wire.specs.declared.error.WireError.TheVariants as wire
use Rattle.am_memberlist.specs.declared.error.AnswerError.{AnswerError}
use Rattle.am_memberlist.specs.declared.error.AnswerError.TheVariants.{Unpacking, Wire, Memory}

-- a fault of unpacking as one of an answer; running out of memory is no fault of the bytes
abbrev pub unpacking_fault : LzwError → AnswerError
unpacking_fault lzw.Memory = Memory
unpacking_fault e = Unpacking e

-- a fault of the states as one of an answer; running out of memory is no fault of the bytes
abbrev pub wire_fault : WireError → AnswerError
wire_fault wire.Memory = Memory
wire_fault e = Wire e

-- a call returns what reading gives, unless memory ran out
abbrev pub GivesUnlessMemory : {A : Type 0} → Result A AnswerError → Result A AnswerError → Type 0
GivesUnlessMemory (Ok x) read = read ≡ Ok x
GivesUnlessMemory (Err e) read = e ≢ Memory → read ≡ Err e

-- a step after one that may fail
infixl 10 ◌>>=◌
abbrev pub ◌>>=◌ : {A B : Type 0} → Result A AnswerError → (A → Result B AnswerError) → Result B AnswerError
(Ok x) >>= f = f x
(Err e) >>= f = Err e
