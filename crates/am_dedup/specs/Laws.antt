-- Groups whose entry already tells everything.
use Rattle.std.specs.Prelude.{◌≡◌, ℕ, ◌+◌, ◌≤◌, Bool, true}
use Rattle.std.specs.FinSet.{contains}
use Rattle.am_dedup.specs.Decisions.{Hashes, Logged}

-- Something fires; the entry lists everything that fires and, if resolved alerts are wanted, everything that is resolved; and
-- the repeat interval isn't over.
pub record IsTold (entry : Logged) (firing resolved : Hashes) (repeat : ℕ) (wanted : Bool) (now : ℕ) : Type 0 where
  pub some : ℕ
  pub fires : contains firing some ≡ true
  pub firing_listed : (hash : ℕ) → contains firing hash ≡ true → contains entry.firing hash ≡ true
  pub resolved_listed : wanted ≡ true → (hash : ℕ) → contains resolved hash ≡ true → contains entry.resolved hash ≡ true
  pub early : now ≤ entry.timestamp + repeat
