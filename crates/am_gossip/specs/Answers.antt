-- The results of calls, apart from running out of memory.
use Rattle.std.specs.Prelude.{◌≡◌, ◌≢◌, Result, Ok, Err}
use Rattle.am_wire.specs.declared.error.WireError.{WireError}
use Rattle.am_wire.specs.declared.error.WireError.TheVariants as wire
use Rattle.am_gossip.specs.declared.error.FrameError.{FrameError}
use Rattle.am_gossip.specs.declared.error.FrameError.TheVariants.{Wire, Memory}

-- the fault of a frame whose payload has this fault; running out of memory is no fault of its bytes
abbrev pub frame_fault : WireError → FrameError
frame_fault wire.Memory = Memory
frame_fault e = Wire e

-- a call returns the result of reading, unless memory ran out
abbrev pub GivesUnlessMemory : {A : Type 0} → Result A FrameError → Result A FrameError → Type 0
GivesUnlessMemory (Ok x) read = read ≡ Ok x
GivesUnlessMemory (Err e) read = e ≢ Memory → read ≡ Err e

-- the result of going on after a step, or its fault
infixl 10 ◌>>=◌
abbrev pub ◌>>=◌ : {A B : Type 0} → Result A FrameError → (A → Result B FrameError) → Result B FrameError
(Ok x) >>= f = f x
(Err e) >>= f = Err e
