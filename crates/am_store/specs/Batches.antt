-- A reader of batches, as contracts see it.
use Rattle.std.specs.Prelude.{ℕ, Bool}
use Rattle.am_store.specs.declared.batches.Batches.{Batches}

-- the number of bytes in the whole blocks that were read
abbrev pub end_of : Batches → ℕ
end_of batches = batches.end

-- the number of bytes behind them
abbrev pub behind_of : Batches → ℕ
behind_of batches = batches.behind

-- nothing more is read
abbrev pub over : Batches → Bool
over batches = batches.is_over
