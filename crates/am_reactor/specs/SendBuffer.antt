-- The bytes that go over a link.
use Rattle.std.specs.Prelude.{◌≡◌, ℕ, ◌+◌, ◌-◌, ◌≤◌, List, ◌++◌, length, take, drop}
use Rattle.am_reactor.specs.Streams.{Appends}

-- the bytes that went out, and those that wait behind them
pub record Outgo : Type 0 where
  pub gone : List ℕ
  pub waiting : List ℕ

-- the number of bytes for which there is still room, if there may be `most` in all
abbrev pub room_in : ℕ → Outgo → ℕ
room_in most buffer = most - (length buffer.gone + length buffer.waiting)

-- the buffer with these bytes waiting behind the others
abbrev pub with_behind : Outgo → List ℕ → Outgo
with_behind buffer bytes = record buffer { waiting = buffer.waiting ++ bytes }

-- the first `count` of the bytes that waited are gone, and the rest waits
pub record Advances (count : ℕ) (before after : Outgo) : Type 0 where
  pub within : count ≤ length before.waiting
  pub gone : after.gone ≡ before.gone ++ take count before.waiting
  pub rest : after.waiting ≡ drop count before.waiting

-- bytes that waited went to a writer, and just these are gone
pub record Empties (old new : List ℕ) (before after : Outgo) : Type 0 where
  pub count : ℕ
  pub written : Appends old new (take count before.waiting)
  pub moved : Advances count before after
