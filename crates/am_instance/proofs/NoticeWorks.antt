-- The work of a notification, put together of its parts.
use Rattle.std.proofs.Common.{◌≡◌, ◌<◌, ◌≤◌, ℕ, List, [], ◌∷◌, Bool, true, false, length, ap, refl, sym, subst, ◌∙◌, inl, inr}
use Rattle.std.specs.Prelude.{◌⊎◌, ◌&&◌, nat_lt, Option, Some, None, Result, Ok, Err, IfOk, IfErr, OnErr, if◌then◌else◌}
use Rattle.std.proofs.lemmas.Bool.{lt-ltb, le-ltb}
use Rattle.am_wire.specs.Limits.{most}
use Rattle.am_wire.specs.declared.error.WireError.{WireError}
use Rattle.am_wire.specs.declared.error.WireError.TheVariants as wire_errors
use Rattle.am_gossip.specs.declared.error.FrameError.{FrameError}
use Rattle.am_gossip.specs.declared.error.FrameError.TheVariants as frame_errors
use Rattle.am_nflog.specs.Mesh.{Mesh as LogMesh, writes_mesh_entry}
use Rattle.am_nflog.specs.Made.{made_entry, expiry}
use Rattle.am_nflog.specs.declared.receiver.Receiver.{Receiver}
use Rattle.am_gossip.specs.declared.refusals.StepError.{StepError}
use Rattle.am_gossip.specs.declared.refusals.StepError.TheVariants.{Memory}
use Rattle.am_instance.specs.declared.event.Event.TheVariants as events
use Rattle.am_instance.specs.declared.reply.Reply.TheVariants as replies
use Rattle.am_instance.specs.declared.reply.Outcome.{Outcome}
use Rattle.am_instance.specs.Deliveries.Delivery.{OfEntry}
use Rattle.am_instance.specs.Sendings.{sent_by, nothing_sent}
use Rattle.am_instance.specs.InstanceStates.{InstanceState}
use Rattle.am_instance.specs.Replies.{IsLogged, IsNothing}
use Rattle.am_instance.specs.Steps.{IsWork, IsLoggedHere}
use Rattle.am_gossip.specs.Refusals.{step_fault}
use Rattle.am_instance.proofs.Works.{made_work, quiet_work, stopped_work, memory_work, made_entry_here}

-- the fault of a notification, by its two tests
abbrev fault_by : Bool → Bool → Option FrameError
fault_by comes large = if comes && large then Some (frame_errors.Wire wire_errors.TooLarge) else None

none_late : (large : Bool) → fault_by false large ≡ None
none_late true = refl
none_late false = refl

module _ (old : InstanceState) (group_key : List ℕ) (receiver : Receiver) (firing resolved : List ℕ) (repeat now : ℕ) where
  -- an entry that is too large, or memory
  pub note_refused : (e : WireError) → (e ≡ wire_errors.Memory) ⊎ (e ≡ wire_errors.TooLarge) →
      (e ≡ wire_errors.TooLarge → (now < expiry repeat old.config.retention now) × (most < length (writes_mesh_entry (made_entry group_key receiver firing resolved repeat old.config.retention now)))) →
      IsWork old (events.Notified group_key receiver firing resolved repeat) now (Err (step_fault e)) old
  note_refused e (inl is) large = subst (λ x. IsWork old (events.Notified group_key receiver firing resolved repeat) now (Err (step_fault x)) old) (sym is)
      (memory_work old old (events.Notified group_key receiver firing resolved repeat) now refl refl)
  note_refused e (inr is) large = subst (λ x. IsWork old (events.Notified group_key receiver firing resolved repeat) now (Err (step_fault x)) old) (sym is) (record {
    config = refl;
    last = refl;
    silences = refl;
    log = refl;
    answer = (
      ap (λ (b : Bool). fault_by b (nat_lt most (length (writes_mesh_entry (made_entry group_key receiver firing resolved repeat old.config.retention now))))) (lt-ltb now (expiry repeat old.config.retention now) (large is).0)
          ∙ ap (λ (b : Bool). fault_by true b) (lt-ltb most (length (writes_mesh_entry (made_entry group_key receiver firing resolved repeat old.config.retention now))) (large is).1),
      refl,
    );
  })

  -- an entry that was made
  pub note_done : (new : InstanceState) (e : LogMesh) (result : Result Outcome StepError) → e ≡ made_entry group_key receiver firing resolved repeat old.config.retention now →
      now < expiry repeat old.config.retention now → ¬ ((now < expiry repeat old.config.retention now) × (most < length (writes_mesh_entry (made_entry group_key receiver firing resolved repeat old.config.retention now)))) →
      IfOk result (λ outcome. IsLoggedHere old e now outcome new) → IfErr result (λ x. x ≡ Memory 0) → OnErr result (new ≡ old) →
      IsWork old (events.Notified group_key receiver firing resolved repeat) now result new
  note_done new e (Err x) is comes fits put memory unchanged = stopped_work old new (events.Notified group_key receiver firing resolved repeat) now x memory unchanged refl
  note_done new e (Ok outcome) is comes fits put memory unchanged =
      let entry = made_entry group_key receiver firing resolved repeat old.config.retention now in
      let small : length (writes_mesh_entry entry) ≤ most = le_of (most) (length (writes_mesh_entry entry)) (λ large. fits (comes, large)) in
      let logged : IsLoggedHere old entry now outcome new = subst (λ (x : LogMesh). IsLoggedHere old x now outcome new) is put in
      made_work old new (events.Notified group_key receiver firing resolved repeat) now outcome (OfEntry entry ∷ []) refl refl refl refl
      (ap (λ (b : Bool). fault_by b (nat_lt most (length (writes_mesh_entry entry)))) (lt-ltb now (expiry repeat old.config.retention now) comes) ∙ ap (λ (b : Bool). fault_by true b) (le-ltb most (length (writes_mesh_entry entry)) small))
      (made_entry_here outcome.made entry logged.no_silences logged.made) logged.delivered logged.sent
      (subst (λ (b : Bool). IsLogged now old.log b entry outcome.reply outcome.made) (sym (lt-ltb now (expiry repeat old.config.retention now) comes)) (logged.answer, logged.no_silences, logged.made))
    where
      le_of : (a b : ℕ) → ¬ (a < b) → b ≤ a
      le_of a b not_less = grind (Rattle.std.proofs.Common.arith, not_less)

  -- no entry was made
  pub note_none : (outcome : Outcome) → expiry repeat old.config.retention now ≤ now → outcome.reply ≡ replies.Logged false → sent_by outcome ≡ nothing_sent → IsNothing outcome.made →
      IsWork old (events.Notified group_key receiver firing resolved repeat) now (Ok outcome) old
  note_none outcome past reply sent nothing =
      let entry = made_entry group_key receiver firing resolved repeat old.config.retention now in
      let late = le-ltb now (expiry repeat old.config.retention now) past in
      quiet_work old (events.Notified group_key receiver firing resolved repeat) now outcome refl refl refl
      (ap (λ (b : Bool). fault_by b (nat_lt most (length (writes_mesh_entry entry)))) late ∙ none_late (nat_lt most (length (writes_mesh_entry entry)))) sent nothing
      (subst (λ (b : Bool). IsLogged now old.log b entry outcome.reply outcome.made) (sym late) (reply, nothing))
