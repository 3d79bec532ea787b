-- A file in memory, as contracts see it.
use Rattle.std.specs.Prelude.{ℕ, List}
use Rattle.am_store.specs.declared.memory.Memory.{Memory}

-- the bytes that it holds
abbrev pub memory_bytes : Memory → List ℕ
memory_bytes m = m.bytes.items
