-- The results of a write.
use Rattle.std.specs.Prelude.{ℕ, ◌<◌, List, [], ◌∷◌, take}
use Rattle.am_reactor.specs.declared.writing.WriteResult.{WriteResult}
use Rattle.am_reactor.specs.declared.writing.WriteResult.TheVariants.{All, Part, Nothing, Interrupted, Failed}
use Rattle.am_reactor.specs.Deeds.{Deed}
use Rattle.am_reactor.specs.Deeds.Deed.{Sent}

-- the number of bytes that a write took
abbrev pub taken_by : WriteResult → ℕ
taken_by All = 0
taken_by (Part count) = count
taken_by Nothing = 0
taken_by Interrupted = 0
taken_by (Failed kind) = 0

-- a write that took a part took at least one byte
abbrev pub HasByte : WriteResult → Type 0
HasByte All = Unit {0}
HasByte (Part count) = 0 < count
HasByte Nothing = Unit {0}
HasByte Interrupted = Unit {0}
HasByte (Failed kind) = Unit {0}

-- the calls that tell of a write of these bytes: just of those that went out, if any did
abbrev pub written_of : List ℕ → WriteResult → List Deed
written_of waiting All = []
written_of waiting (Part count) = Sent (take count waiting) ∷ []
written_of waiting Nothing = []
written_of waiting Interrupted = []
written_of waiting (Failed kind) = []
