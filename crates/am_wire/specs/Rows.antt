use Rattle.std.specs.Prelude.{ℕ, List, Result, Ok, Err}
use denote.Ref.{Bor}
use Rattle.am_wire.specs.declared.error.WireError.{WireError}

-- a result of the code: a message, without its place in memory
abbrev pub row_seen : Result (Bor (List ℕ)) WireError → Result (List ℕ) WireError
row_seen (Ok b) = Ok b.now
row_seen (Err e) = Err e

-- a result of the code: a message, without its place in memory, and its length
abbrev pub first_row_seen : Result (Bor (List ℕ) × ℕ) WireError → Result (List ℕ × ℕ) WireError
first_row_seen (Ok x) = Ok (x.0.now, x.1)
first_row_seen (Err e) = Err e
