-- A map with the moment of its last event.
use Rattle.std.specs.Prelude.{ℕ, List}

-- the held versions, in the order of their keys, and the moment of the last event
pub record Kept (X : Type 0) : Type 0 where
  pub held : List X
  pub last : ℕ
