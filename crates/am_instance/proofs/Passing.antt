-- The events that a step is to its maps: their moments, and what they leave.
use Rattle.std.proofs.Common.{◌≡◌, ◌≤◌, ℕ, List, [], ◌∷◌, Bool, true, false, map, ap, refl, sym, ◌∙◌, take, arith}
use Rattle.std.specs.Prelude.{Result, Ok, Err, if◌then◌else◌}
use Rattle.std.specs.Ordering.{nat_cmp}
use Rattle.std.specs.Cmp.Lexicographic.{slice_cmp}
use Rattle.am_wire.specs.declared.unknown.Unknown.{Unknown}
use Rattle.am_silence.specs.Mesh.{Mesh, mesh_version}
use Rattle.am_nflog.specs.Mesh.{Mesh as LogMesh, mesh_version as entry_version}
use Rattle.am_nflog.specs.Keys.{key_cmp}
use Rattle.am_merge.specs.Maps.{at}
use Rattle.am_collect.specs.Events.{MapEvent, MoveForward, last_moment}
use Rattle.am_collect.specs.Events.MapEvent.{Collected}
use Rattle.am_collect.specs.Kept.{Kept}
use Rattle.am_instance.specs.declared.event.Event.{Event}
use Rattle.am_gossip.specs.declared.refusals.StepError.{StepError}
use Rattle.am_gossip.specs.declared.refusals.StepError.TheVariants.{MomentBack, UnknownPeer, Frame, Memory}
use Rattle.am_instance.specs.declared.reply.Outcome.{Outcome}
use Rattle.am_instance.specs.Deliveries.{Delivery, events_at, to_silences, to_log}
use Rattle.am_instance.specs.InstanceStates.{InstanceState, kept_silences, kept_log, AreSilencesLeftBy, IsLogLeftBy}
use Rattle.am_instance.specs.Steps.{IsWork, brought, collects, counts, delivers, step_events}

module _ {X : Type 0} (of_delivery : Delivery → MapEvent X) (unknown : Unknown) (now : ℕ) where
  all_now : (ds : List Delivery) → MoveForward now (map (λ d. (of_delivery d, now)) ds)
  all_now [] = tt
  all_now (d ∷ ds) = (omega arith, all_now ds)

  last_now : (ds : List Delivery) → last_moment now (map (λ d. (of_delivery d, now)) ds) ≡ now
  last_now [] = refl
  last_now (d ∷ ds) = last_now ds

  answered_forward : (from : ℕ) (test : Bool) (ds : List Delivery) → from ≤ now → MoveForward from (if test then (Collected, now) ∷ [] else events_at of_delivery now ds)
  answered_forward from true ds later = (later, tt)
  answered_forward from false ds later = (later, all_now ds)

  answered_last : (from : ℕ) (test : Bool) (ds : List Delivery) → last_moment from (if test then (Collected, now) ∷ [] else events_at of_delivery now ds) ≡ now
  answered_last from true ds = refl
  answered_last from false ds = last_now ds

  forward : (from : ℕ) (event : Event) (result : Result Outcome StepError) → from ≤ now → MoveForward from (step_events of_delivery unknown event now result)
  forward from event (Ok outcome) later = answered_forward from (collects event) (delivers unknown event outcome.made) later
  forward from event (Err (Memory taken)) later = (later, all_now _)
  forward from event (Err (MomentBack last)) later = tt
  forward from event (Err UnknownPeer) later = tt
  forward from event (Err (Frame fault)) later = tt

  ends_now : (from : ℕ) (event : Event) (result : Result Outcome StepError) → counts result ≡ true → last_moment from (step_events of_delivery unknown event now result) ≡ now
  ends_now from event (Ok outcome) counted = answered_last from (collects event) (delivers unknown event outcome.made)
  ends_now from event (Err (Memory taken)) counted = last_now (take taken (brought unknown event))
  ends_now from event (Err (MomentBack last)) counted = absurd cc
  ends_now from event (Err UnknownPeer) counted = absurd cc
  ends_now from event (Err (Frame fault)) counted = absurd cc

module _ (old mid : InstanceState) (event : Event) (now : ℕ) (result : Result Outcome StepError) (later : old.last ≤ now) (work : IsWork old event now result mid) (counted : counts result ≡ true) where
  pub silences_left : (new : Kept Mesh) → new.last ≡ now → new.held ≡ mid.silences → AreSilencesLeftBy (kept_silences old) (step_events to_silences old.config.unknown event now result) new
  silences_left new last same = record {
    forward = forward to_silences old.config.unknown now old.last event result later;
    map = λ key. ap (λ (held : List Mesh). at mesh_version (slice_cmp nat_cmp) held key) same ∙ ap (λ m. m key) work.silences;
    last = last ∙ sym (ends_now to_silences old.config.unknown now old.last event result counted);
  }

  pub log_left : (new : Kept LogMesh) → new.last ≡ now → new.held ≡ mid.log → IsLogLeftBy (kept_log old) (step_events to_log old.config.unknown event now result) new
  log_left new last same = record {
    forward = forward to_log old.config.unknown now old.last event result later;
    map = λ key. ap (λ (held : List LogMesh). at entry_version key_cmp held key) same ∙ ap (λ m. m key) work.log;
    last = last ∙ sym (ends_now to_log old.config.unknown now old.last event result counted);
  }
