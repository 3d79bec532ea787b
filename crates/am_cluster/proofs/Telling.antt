-- The outcome of an event at a member, in the terms of the cluster.
use Rattle.am_wire.specs.declared.unknown.Unknown.TheVariants.{Drop}
use Rattle.std.proofs.Common.{◌≡◌, inr, ℕ, ◌-◌, max, true, List, [], ◌∷◌, ◌++◌, Some, Result, sym, ap, ◌∙◌, subst, length, set}
use Rattle.std.specs.Prelude.{All}
use Rattle.am_silence.specs.Mesh.{Mesh}
use Rattle.am_nflog.specs.Mesh.{Mesh as LogMesh}
use Rattle.am_instance.specs.declared.event.Event.{Event}
use Rattle.am_instance.specs.declared.reply.Reply.{Reply}
use Rattle.am_instance.specs.InstanceStates.{InstanceState}
use Rattle.am_instance.specs.Steps.{IsAccepted}
use Rattle.am_runs.specs.declared.step.DeliverySource.{DeliverySource}
use Rattle.am_runs.specs.Steps.{RunStep, flights_of}
use Rattle.am_cluster.specs.BothStates.{log_state, silence_state}
use Rattle.am_cluster.specs.Recorded.{HasSource, event_step}
use Rattle.am_cluster.specs.Accounts.{Account}
use Rattle.am_cluster.specs.Twins.{AreTwins}
use Rattle.am_cluster.proofs.Twinned.{twin_flights}
use Rattle.am_cluster.specs.declared.error.ClusterError.{ClusterError}
use Rattle.am_cluster.specs.declared.flight.Flight.{Flight}
use Rattle.am_cluster.specs.declared.writing.Entry.{Entry}
use Rattle.am_cluster.specs.Worlds.{Replica, World, replica_at, sent_on, with_flights, with_replica, written}
use Rattle.am_cluster.specs.Events.{CanHave, IsEvent, with_stand}
use Rattle.am_cluster.specs.Lives.{OfMember}
use Rattle.am_cluster.specs.Ties.{CanFly, IsWorld}
use Rattle.am_cluster.specs.Acting.{CanHappen, HasActed}
use Rattle.am_cluster.proofs.Acted.{told_flying}
use Rattle.am_cluster.proofs.Happened.{world_happened}
use Rattle.am_cluster.proofs.Lived.{for_replica, room_spent}

five : (rs : List Replica) (ss ss2 : List (RunStep Mesh)) (ls ls2 : List (RunStep LogMesh)) (ns ns2 : List ℕ) (fs fs2 : List Flight) (m m2 : ℕ) → ss ≡ ss2 → ls ≡ ls2 → ns ≡ ns2 → fs ≡ fs2 → m ≡ m2 →
    ◌≡◌ {A = World} (record { replicas = rs; silences = ss; log = ls; lines = ns; flights = fs; room = m }) (record { replicas = rs; silences = ss2; log = ls2; lines = ns2; flights = fs2; room = m2 })
five rs ss ss2 ls ls2 ns ns2 fs fs2 m m2 a b c d e = cc

-- an account of the journal that tells of a cluster, once room for one step was made
pub record Tells (a : Account) (w : World) : Type 0 where
  pub members : a.members ≡ length w.replicas
  pub silences : a.silences ≡ w.silences
  pub log : a.log ≡ w.log
  pub lines : a.lines ≡ w.lines
  pub room : a.room ≡ max w.room 1

pub tell : (a : Account) (w : World) → a.members ≡ length w.replicas → a.silences ≡ w.silences → a.log ≡ w.log → a.lines ≡ w.lines → a.room ≡ max w.room 1 → Tells a w
tell a w members silences log lines room = record { members = members; silences = silences; log = log; lines = lines; room = room }

-- the member that stands at a place can have the event
pub can_have : (w v : World) (place : ℕ) (r : Replica) (event : Event) (now : ℕ) → w ≡ v → replica_at w place ≡ Some r → OfMember v place (λ replica. CanHave replica event now) → CanHave r event now
can_have w v place r event now same found ready = ready r (subst (λ u. replica_at u place ≡ Some r) same found)

module _ (w : World) (a : Account) (tells : Tells a w) (place now line : ℕ) (r : Replica) (event : Event) (source : DeliverySource) (is : IsWorld w) (found : replica_at w place ≡ Some r) where
  abbrev entry : Entry
  entry = record { place = place; moment = now; source = source; line = line }

  -- the account may be read as that of the cluster
  abbrev Ready : ℕ → List (RunStep Mesh) → List (RunStep LogMesh) → Type 0
  Ready members silences log = CanHappen (record a { members = members; silences = silences; log = log }) entry event r.stand

  pub can_act : r.runs ≡ true → HasSource silence_state Drop (length w.replicas) w.silences now event source →
      HasSource log_state Drop (length w.replicas) w.log now event source → IsAccepted r.stand event now → CanHappen a entry event r.stand
  can_act runs from_silences from_log accepted =
      let m = is.members place r found in
      subst (λ n. Ready n a.silences a.log) (sym tells.members) (subst (λ ss. Ready (length w.replicas) ss a.log) (sym tells.silences) (subst (λ ls. Ready (length w.replicas) w.silences ls) (sym tells.log) (record {
        silences = record { runs = m.silences.runs ∙ runs; gone = m.silences.held; from = from_silences };
        log = record { runs = m.log.runs ∙ runs; gone = m.log.held; from = from_log };
        accepted = accepted;
        own_place = m.place;
        all_members = m.members;
        unknown = m.unknown;
        whole = m.whole;
      })))

  module _ (result : Result Reply ClusterError) (new : Account) (after : List Flight) (stand : InstanceState) (acted : HasActed a w.flights entry event r.stand result new after stand) where
    abbrev pub event_world : World
    event_world =
        written (with_flights (with_replica w place (with_stand r stand)) place now acted.recorded.frames)
        (event_step silence_state Drop place now source event acted.answer acted.recorded.frames) (event_step log_state Drop place now source event acted.answer acted.recorded.frames) line

    -- what the journal, the frames in flight and the members are after it
    pub world_is : ◌≡◌ {A = World} (record { replicas = set w.replicas place (with_stand r stand); silences = new.silences; log = new.log; lines = new.lines; flights = after; room = new.room }) event_world
    world_is =
        let one = acted.recorded.silences ∙ ap (λ ss. ss ++ event_step silence_state Drop place now source event acted.answer acted.recorded.frames ∷ []) tells.silences in
        let other = acted.recorded.log ∙ ap (λ ls. ls ++ event_step log_state Drop place now source event acted.answer acted.recorded.frames ∷ []) tells.log in
        let third = acted.recorded.lines ∙ ap (λ ns. ns ++ line ∷ []) tells.lines in
        let fourth = acted.recorded.flights_are ∙ ap (λ ss. w.flights ++ sent_on (length (flights_of ss)) place now acted.recorded.frames) tells.silences in
        let fifth = acted.recorded.room ∙ (ap (λ n. n - 1) tells.room ∙ room_spent w.room) in
        five (set w.replicas place (with_stand r stand)) _ _ _ _ _ _ _ _ _ _ one other third fourth fifth

    pub event_hangs : AreTwins w.silences w.log → IsWorld event_world
    event_hangs twins =
        world_happened w place r stand event source now line acted.answer acted.recorded.frames is found acted.step (told_flying source acted.answer acted.recorded.frames result acted.recorded.told)
        (twin_flights w.silences w.log twins) (subst (λ n. All (CanFly n place) acted.recorded.frames) tells.members acted.can_fly)

    pub event_told : (v : World) → w ≡ v → r.runs ≡ true → (n : World) → n ≡ event_world → OfMember v place (λ replica. IsEvent v place replica event source now line result n)
    event_told v same runs n is_new =
        for_replica (λ u replica. IsEvent u place replica event source now line result n) w v place r same found
        (inr (record { runs = runs; answer = acted.answer; stand = stand; step = acted.step; frames = acted.recorded.frames; told = acted.recorded.told; world = is_new }))
