-- Saves, stops and starts of a member.
use Rattle.std.specs.Prelude.{◌≡◌, ℕ, ◌≤◌, true, false, Some, Result, Ok, Err}
use Rattle.am_instance.specs.declared.reply.Reply.{Reply}
use Rattle.am_instance.specs.declared.reply.Reply.TheVariants.{Nothing}
use Rattle.am_runs.specs.Steps.RunStep.{Saved, Stopped, Started}
use Rattle.am_cluster.specs.declared.error.ClusterError.{ClusterError}
use Rattle.am_cluster.specs.declared.error.ClusterError.TheVariants as errors
use Rattle.am_cluster.specs.Worlds.{Replica, World, replica_at, with_replica, written}

-- the member with both maps kept beside it
abbrev pub saved : Replica → Replica
saved replica = record replica { saved_silences = replica.stand.silences; saved_log = replica.stand.log }

-- the member, which no longer runs; its maps stay as they are
abbrev pub stopped : Replica → Replica
stopped replica = record replica { runs = false }

-- the member with its saved maps, whatever came since
abbrev pub started : Replica → ℕ → Replica
started replica now =
    record replica { stand = record replica.stand { silences = replica.saved_silences; log = replica.saved_log; last = now }; runs = true }

-- The outcome of saving a member. A stopped one is told as such, and want of memory only of one that runs; neither is recorded.
abbrev pub IsSave : World → ℕ → Replica → ℕ → Result Reply ClusterError → World → Type 0
IsSave old place replica line (Ok reply) new =
    (reply ≡ Nothing) × (replica.runs ≡ true) × (new ≡ written (with_replica old place (saved replica)) (Saved place) (Saved place) line)
IsSave old place replica line (Err errors.Stopped) new = (replica.runs ≡ false) × (new ≡ old)
IsSave old place replica line (Err errors.Memory) new = (replica.runs ≡ true) × (new ≡ old)
IsSave old place replica line (Err _) new = ⊥

-- The outcome of stopping a member. Want of memory is told only if there was no room to record it.
abbrev pub IsStop : World → ℕ → Replica → ℕ → Result Reply ClusterError → World → Type 0
IsStop old place replica line (Ok reply) new =
    (reply ≡ Nothing) × (replica.runs ≡ true) × (new ≡ written (with_replica old place (stopped replica)) (Stopped place) (Stopped place) line)
IsStop old place replica line (Err errors.Stopped) new = (replica.runs ≡ false) × (new ≡ old)
IsStop old place replica line (Err errors.Memory) new = (replica.runs ≡ true) × (old.room ≡ 0) × (new ≡ old)
IsStop old place replica line (Err _) new = ⊥

-- the member is stopped, and can be started at this moment
pub record CanBegin (replica : Replica) (now : ℕ) : Type 0 where
  pub stopped : replica.runs ≡ false
  pub forward : replica.stand.last ≤ now

-- the outcome of starting a member that can be started
abbrev pub IsStart : World → ℕ → Replica → ℕ → ℕ → Result Reply ClusterError → World → Type 0
IsStart old place replica now line (Ok reply) new =
    (reply ≡ Nothing) × (new ≡ written (with_replica old place (started replica now)) (Started place now) (Started place now) line)
IsStart old place replica now line (Err errors.Memory) new = new ≡ old
IsStart old place replica now line (Err _) new = ⊥

-- P holds of the member at a place, if there is one
abbrev pub OfMember : World → ℕ → (Replica → Type 0) → Type 0
OfMember world place P = (replica : Replica) → replica_at world place ≡ Some replica → P replica
