-- Answers have all that recording them asks for.
use Rattle.am_wire.specs.declared.unknown.Unknown.TheVariants.{Drop}
use Rattle.std.proofs.Common.{◌≡◌, ◌⊎◌, inl, inr, ℕ, Bool, true, false, cond, List, [], ◌∷◌, ◌++◌, Result, Ok, Err, append-nil, refl, sym, ap, ◌∙◌, subst, map, take}
use Rattle.am_gossip.specs.declared.frame.Frame.{Frame}
use Rattle.am_instance.specs.declared.event.Event.{Event}
use Rattle.am_instance.specs.declared.event.Event.TheVariants as events
use Rattle.am_gossip.specs.declared.refusals.StepError.TheVariants.{Memory}
use Rattle.am_instance.specs.declared.reply.Outcome.{Outcome}
use Rattle.am_instance.specs.declared.reply.Reply.{Reply}
use Rattle.am_instance.specs.Steps.{brought, collects, delivers}
use Rattle.am_runs.specs.Steps.RunStep.{Took, Ticked}
use Rattle.am_cluster.specs.BothStates.{log_state, silence_state}
use Rattle.am_cluster.specs.Contents.{delivery_of, silences_in, entries_in}
use Rattle.am_cluster.specs.declared.carried.version.AnyVersion.{AnyVersion}
use Rattle.am_cluster.specs.Recorded.{AreInFlight, sent_in}
use Rattle.am_cluster.specs.Accounts.{Account}
use Rattle.am_cluster.specs.Reports.{IsPossibleForSilences, IsPossibleForLog}
use Rattle.am_cluster.specs.declared.recording.Kind.{Kind}
use Rattle.am_cluster.specs.declared.recording.Kind.TheVariants as kinds
use Rattle.am_cluster.specs.declared.writing.Delivered.{Delivered}
use Rattle.am_cluster.specs.declared.writing.Entry.{Entry}
use Rattle.am_cluster.specs.declared.error.ClusterError.{ClusterError}
use Rattle.am_cluster.specs.declared.flight.Flight.{Flight}
use Rattle.am_cluster.specs.Events.{IsTold}
use Rattle.am_cluster.specs.Recording.{AreDelivered, CanRecord, IsRecorded, brings_or_makes, kind_of}
use Rattle.am_cluster.specs.Writing.{CanWrite, IsWritten}

-- ---- the kind of an event

collects_where : (b : Bool) (k : Kind) → (k ≡ kinds.Brings) ⊎ (k ≡ kinds.Makes) → cond b kinds.Collects k ≡ kinds.Collects → b ≡ true
collects_where true k other e = refl
collects_where false k (inl brings) e = absurd cc
collects_where false k (inr makes) e = absurd cc

brings_or_makes_one : (event : Event) → (brings_or_makes event ≡ kinds.Brings) ⊎ (brings_or_makes event ≡ kinds.Makes)
brings_or_makes_one (events.Request request) = inr refl
brings_or_makes_one (events.Frame sender frame) = inl refl
brings_or_makes_one (events.Notified group_key receiver firing resolved repeat) = inr refl
brings_or_makes_one (events.Decide group_key receiver firing resolved repeat send_resolved) = inr refl
brings_or_makes_one (events.Mutes labels) = inr refl
brings_or_makes_one events.Show = inr refl
brings_or_makes_one events.Tick = inr refl
brings_or_makes_one (events.PullFrom place) = inr refl

pub kind_collects : (event : Event) → kind_of event ≡ kinds.Collects → collects event ≡ true
kind_collects event e = collects_where (collects event) (brings_or_makes event) (brings_or_makes_one event) e

not_where : (b : Bool) (k : Kind) → (cond b kinds.Collects k ≡ kinds.Collects → ⊥) → b ≡ false
not_where true k not = absurd (not refl)
not_where false k not = refl

pub kind_other : (event : Event) → (kind_of event ≡ kinds.Collects → ⊥) → collects event ≡ false
kind_other event not = not_where (collects event) (brings_or_makes event) not

-- ---- what can be written

module _ (account : Account) (entry : Entry) (event : Event) where
  pub can_tick : (outcome : Outcome) → CanRecord account entry event (Ok outcome) → kind_of event ≡ kinds.Collects →
      IsPossibleForSilences account.members account.silences (Ticked entry.place entry.moment)
  can_tick outcome can kind =
      subst (λ b. IsPossibleForSilences account.members account.silences (cond b (Ticked entry.place entry.moment) (Took entry.place entry.moment entry.source (silences_in (delivers Drop event outcome.made)) [])))
      (kind_collects event kind) (can.silences [] (inr refl))

  pub can_send : (outcome : Outcome) (delivered : Delivered) (frames : List (ℕ × Frame)) → CanRecord account entry event (Ok outcome) → collects event ≡ false → AreDelivered event outcome.made delivered → AreInFlight (Ok outcome) frames → CanWrite account entry delivered frames
  can_send outcome delivered frames can kind are flying = record {
    room_for_it = can.room_for_it;
    silences =
        subst (λ vs. IsPossibleForSilences account.members account.silences (Took entry.place entry.moment entry.source vs (sent_in silence_state Drop frames))) (sym are.silences)
        (subst (λ b. IsPossibleForSilences account.members account.silences (cond b (Ticked entry.place entry.moment) (Took entry.place entry.moment entry.source (silences_in (delivers Drop event outcome.made)) (sent_in silence_state Drop frames))))
        kind (can.silences frames flying));
    log =
        subst (λ vs. IsPossibleForLog account.members account.log (Took entry.place entry.moment entry.source vs (sent_in log_state Drop frames))) (sym are.log)
        (subst (λ b. IsPossibleForLog account.members account.log (cond b (Ticked entry.place entry.moment) (Took entry.place entry.moment entry.source (entries_in (delivers Drop event outcome.made)) (sent_in log_state Drop frames))))
        kind (can.log frames flying));
  }

  pub can_stop : (versions : List AnyVersion) (taken : ℕ) (delivered : Delivered) → CanRecord account entry event (Err (Memory taken)) → map delivery_of versions ≡ brought Drop event →
      delivered.silences.items ≡ silences_in (take taken (map delivery_of versions)) → delivered.log.items ≡ entries_in (take taken (map delivery_of versions)) → CanWrite account entry delivered []
  can_stop versions taken delivered can came silences log = record {
    room_for_it = can.room_for_it;
    silences =
        subst (λ vs. IsPossibleForSilences account.members account.silences (Took entry.place entry.moment entry.source vs []))
        (sym (silences ∙ ap (λ ds. silences_in (take taken ds)) came)) (can.silences [] refl);
    log =
        subst (λ vs. IsPossibleForLog account.members account.log (Took entry.place entry.moment entry.source vs []))
        (sym (log ∙ ap (λ ds. entries_in (take taken ds)) came)) (can.log [] refl);
  }

-- an event that was answered is written down without its frames
pub recorded_alone : (old new : Account) (flights after : List Flight) (entry : Entry) (event : Event) (outcome : Outcome) (delivered : Delivered) (result : Result Reply ClusterError) →
    collects event ≡ false → AreDelivered event outcome.made delivered → IsWritten old entry delivered [] new → after ≡ flights → IsTold entry.source (Ok outcome) [] result →
    IsRecorded old flights entry event (Ok outcome) result new after
recorded_alone old new flights after entry event outcome delivered result other are written same told = record {
  frames = [];
  told = told;
  members = written.members;
  silences = written.silences ∙ ap (λ s. old.silences ++ s ∷ [])
      (ap (λ vs. Took entry.place entry.moment entry.source vs []) are.silences
      ∙ ap (λ b. cond b (Ticked entry.place entry.moment) (Took entry.place entry.moment entry.source (silences_in (delivers Drop event outcome.made)) [])) (sym other));
  log = written.log ∙ ap (λ s. old.log ++ s ∷ [])
      (ap (λ vs. Took entry.place entry.moment entry.source vs []) are.log
      ∙ ap (λ b. cond b (Ticked entry.place entry.moment) (Took entry.place entry.moment entry.source (entries_in (delivers Drop event outcome.made)) [])) (sym other));
  lines = written.lines;
  room = written.room;
  flights_are = same ∙ sym (append-nil flights);
}
