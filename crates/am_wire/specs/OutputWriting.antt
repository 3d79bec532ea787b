-- Bytes taken by a writer.
use Rattle.std.specs.Prelude.{ℕ, ◌<◌, List, length, take, Option}
use Rattle.std.specs.Io.KnownBytes.{Appends}

-- exactly the first `written` bytes went out, and not all
abbrev pub WritesPart : Option (List ℕ) → Option (List ℕ) → List ℕ → ℕ → Type 0
WritesPart old new bytes written = (written < length bytes) × Appends old new (take written bytes)
