-- The outcome of what is asked of a member.
use Rattle.std.specs.Prelude.{◌≡◌, ◌⊎◌, ℕ, Some, None, Result}
use Rattle.am_instance.specs.declared.reply.Reply.{Reply}
use Rattle.am_cluster.specs.declared.resolved_event.ResolvedEvent.{ResolvedEvent}
use Rattle.am_cluster.specs.declared.resolved_event.ResolvedEvent.TheVariants as asked
use Rattle.am_cluster.specs.declared.error.ClusterError.{ClusterError}
use Rattle.am_cluster.specs.Events.{HasHappened}
use Rattle.am_cluster.specs.Lives.{IsStart}
use Rattle.am_cluster.specs.Refusals.{IsRefused, IsUnmade, mark_of, refused_anyway}
use Rattle.am_cluster.specs.Worlds.{Replica, World}

-- An event happens at the member, or the member is started. An event with a peer that is no member never happens: it is refused.
abbrev pub IsCarriedOut : World → ℕ → Replica → ResolvedEvent → ℕ → ℕ → Result Reply ClusterError → World → Type 0
IsCarriedOut old place replica (asked.Event event source) now line result new =
    HasHappened old place replica event source now line result new
IsCarriedOut old place replica asked.Start now line result new = IsStart old place replica now line result new
IsCarriedOut old place replica asked.NoMember now line result new = ⊥

-- The outcome of what is asked of a member.
pub record IsDone (old : World) (place : ℕ) (replica : Replica) (what : ResolvedEvent) (now line : ℕ) (result : Result Reply ClusterError)
    (new : World) : Type 0 where
  -- the request is refused for the first cause that applies
  pub refused : (cause : ClusterError) → refused_anyway replica what now ≡ Some cause → IsRefused cause (mark_of cause place now) old line result new
  -- if none applies, the request is carried out, or not made because memory ran out
  pub done : refused_anyway replica what now ≡ None → IsUnmade old result new ⊎ IsCarriedOut old place replica what now line result new
