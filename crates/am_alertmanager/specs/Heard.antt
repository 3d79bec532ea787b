-- The replicas that were heard, by rounds.
use Rattle.std.specs.Prelude.{ℕ, Bool, true, false, Option, Some, None, nat_le, is_none, ◌&&◌, ◌||◌}
use Rattle.am_alertmanager.specs.declared.replica.Replica.{Replica}
use Rattle.am_alertmanager.specs.declared.replica.ExchangeState.{ExchangeState}
use Rattle.am_alertmanager.specs.declared.replica.ExchangeState.TheVariants.{Idle, Pulling, Pushing}
use Rattle.am_alertmanager.specs.declared.rounds.Rounds.{Rounds}

-- an exchange with the replica at a place that began in a round or later is over, or no replica is there
abbrev pub is_over_at : ℕ → Option Replica → Bool
is_over_at round None = true
is_over_at round (Some replica) = nat_le round replica.rounds.over

-- the last exchange was taken as a whole
abbrev pub heard_all : Rounds → Rounds
heard_all rounds = record rounds { over = rounds.begun; heard = rounds.begun }

-- the last exchange is over, and not all of it was taken
abbrev pub lost_all : Rounds → Rounds
lost_all rounds = record rounds { over = rounds.begun }

-- the replica isn't just being asked
abbrev pub is_unasked : ExchangeState → Bool
is_unasked Pulling = false
is_unasked Idle = true
is_unasked Pushing = true

-- true if a replica is to be asked after it was wanted: it is, unless it is just being asked or has answered
abbrev pub is_due_then : Replica → Bool
is_due_then replica = replica.is_due || (is_unasked replica.exchange && is_none replica.answer)
