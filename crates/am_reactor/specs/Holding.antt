-- The number of bytes that the sessions keep.
use Rattle.std.specs.Prelude.{ℕ, ◌<◌, ◌≤◌, Option, Some, None}
use Rattle.slab.specs.Slab.{Slab, get}
use Rattle.am_reactor.specs.declared.connection.Connection.{Connection}

-- the number of bytes that a connection's session keeps, or 0 if there is no connection
abbrev pub held_in : {T C : Type 0} → Option (Connection T C) → ℕ
held_in (Some connection) = connection.held
held_in None = 0

-- the number of bytes that are kept under a key
abbrev pub held_under : {T C : Type 0} → Slab (Connection T C) → ℕ → ℕ
held_under table key = held_in (get table key)

-- the number of bytes of a reply that a connection's session keeps, or 0 if there is no connection
abbrev pub unread_in : {T C : Type 0} → Option (Connection T C) → ℕ
unread_in (Some connection) = connection.unread
unread_in None = 0

-- the number of bytes of a reply that are kept under a key
abbrev pub unread_under : {T C : Type 0} → Slab (Connection T C) → ℕ → ℕ
unread_under table key = unread_in (get table key)

-- no key below the limit has more bytes kept under it than this one
abbrev pub IsHeaviest : {T C : Type 0} → ℕ → Slab (Connection T C) → ℕ → Type 0
IsHeaviest limit table key = (other : ℕ) → other < limit → held_under table other ≤ held_under table key
