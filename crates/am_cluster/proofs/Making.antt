-- The versions that a step makes are made now.
use Rattle.std.proofs.Common.{◌≡◌, ℕ, List, [], ◌∷◌, ◌++◌, Bool, true, false, ap, refl, sym, subst, ◌∙◌}
use Rattle.std.specs.Prelude.{Option, Some, None, if◌then◌else◌, map, All}
use Rattle.std.proofs.lemmas.List.Elements.{All-nil, All-cons}
use Rattle.am_silence.specs.Mesh.{Mesh, mesh_version}
use Rattle.am_silence.specs.declared.silence.Silence.{Silence}
use Rattle.am_silence.specs.declared.state.State.{State}
use Rattle.am_silence.specs.declared.state.State.TheVariants as states
use Rattle.am_silence.specs.declared.error.SilenceError.{SilenceError}
use Rattle.am_silence.specs.declared.error.SilenceError.TheVariants as errors
use Rattle.am_silence.specs.declared.plan.Plan.TheVariants as plans
use Rattle.am_silence.specs.States.{has_expired, is_expired, state_of}
use Rattle.am_silence.specs.Plans.{Post, ended_in, ended_of, ended_version, held_version, may_update, new_plan, new_version, plan_over, planned, post_of, updated_version, versions}
use Rattle.am_silence.specs.Refusals.{◌when◌, ◌before◌, early_end_refusal, end_refusal, newer_refusal, size_refusal}
use Rattle.am_nflog.specs.Mesh.{Mesh as LogMesh, mesh_version as entry_version}
use Rattle.am_instance.specs.declared.event.Event.{Event}
use Rattle.am_instance.specs.declared.event.Event.TheVariants as events
use Rattle.am_instance.specs.declared.event.Request.{Request}
use Rattle.am_instance.specs.declared.event.Request.TheVariants as requests
use Rattle.am_instance.specs.declared.reply.Made.{Made}
use Rattle.am_instance.specs.declared.reply.Reply.{Reply}
use Rattle.am_instance.specs.Deliveries.Delivery.{OfSilence, OfEntry}
use Rattle.am_instance.specs.InstanceStates.{InstanceState}
use Rattle.am_instance.specs.Replies.{AreSilencesMade, IsDone, IsEnded, IsLogged, IsNothing, IsReply, IsRequestReply, RefusedOr, listed, posted_over, silence_in_view}
use Rattle.am_instance.specs.Steps.{made_here}
use Rattle.am_cluster.specs.Contents.{silences_in, entries_in}
use Rattle.am_cluster.proofs.RoundTrip.{silences_parted, entries_parted}

abbrev IsNow : ℕ → Mesh → Type 0
IsNow now v = v.silence.updated_at ≡ now

abbrev IsEntryNow : ℕ → LogMesh → Type 0
IsEntryNow now e = e.entry.timestamp ≡ now

-- what was made here was made now
pub record MadeNow (now : ℕ) (made : Made) : Type 0 where
  pub silences : All (IsNow now) made.silences.items
  pub log : All (IsEntryNow now) (listed made.log)

none_made : (now : ℕ) (made : Made) → IsNothing made → MadeNow now made
none_made now made nothing = record {
  silences = subst (All (IsNow now)) (sym nothing.silences) (All-nil (IsNow now));
  log = subst (λ (o : Option LogMesh). All (IsEntryNow now) (listed o)) (sym nothing.log) (All-nil (IsEntryNow now));
}

some_made : (now : ℕ) (made : Made) (vs : List Mesh) → All (IsNow now) vs → AreSilencesMade made vs → MadeNow now made
some_made now made vs is are = record {
  silences = subst (All (IsNow now)) (sym are.silences) is;
  log = subst (λ (o : Option LogMesh). All (IsEntryNow now) (listed o)) (sym are.log) (All-nil (IsEntryNow now));
}

-- ---- plans
one_now : (now : ℕ) (v : Mesh) → IsNow now v → All (IsNow now) (v ∷ [])
one_now now v is = All-cons (IsNow now) v [] is (All-nil (IsNow now))

ended_now : (state : State) (held : Silence) (now : ℕ) → is_expired state ≡ false → (ended_in state held now).updated_at ≡ now
ended_now states.Active held now not_expired = refl
ended_now states.Pending held now not_expired = refl
ended_now states.Expired held now not_expired = absurd cc

new_plan_now : (held : Mesh) (p : Post) (expired : Bool) → has_expired held.silence p.now ≡ expired →
    All (IsNow p.now) (versions (if expired then plans.Create (new_version p) else plans.Replace (new_version p) (ended_version held p.now p.retention)))
new_plan_now held p true is = one_now p.now (new_version p) refl
new_plan_now held p false is =
    All-cons (IsNow p.now) (new_version p) (ended_version held p.now p.retention ∷ []) refl
    (one_now p.now (ended_version held p.now p.retention) (ended_now (state_of held.silence p.now) held.silence p.now is))

plan_now_by : (held : Mesh) (p : Post) (updates : Bool) → All (IsNow p.now) (versions (if updates then plans.Update (updated_version held p) else new_plan (Some held) p))
plan_now_by held p true = one_now p.now (updated_version held p) refl
plan_now_by held p false = new_plan_now held p (has_expired held.silence p.now) refl

plan_now : (held : Option Mesh) (p : Post) → All (IsNow p.now) (versions (plan_over held p))
plan_now None p = one_now p.now (new_version p) refl
plan_now (Some held) p = plan_now_by held p (may_update held.silence p.posted p.now)

planned_now : (held : Option Mesh) (p : Post) → All (IsNow p.now) (versions (planned held p))
unfolding planned
planned_now held p = plan_now (held_version held p.posted) p

-- ---- ends
not_refused : (expired : Bool) (newer size : Option SilenceError) → ((errors.AlreadyExpired when expired before newer) before size) ≡ None → expired ≡ false
not_refused false newer size passed = refl
not_refused true newer size passed = absurd cc

ended_of_now : (held : Option Mesh) (now retention : ℕ) → end_refusal held now retention ≡ None → All (IsNow now) (listed (ended_of held now retention))
unfolding end_refusal early_end_refusal
ended_of_now None now retention passed = All-nil (IsNow now)
ended_of_now (Some held) now retention passed =
    one_now now (ended_version held now retention)
    (ended_now (state_of held.silence now) held.silence now
    (not_refused (has_expired held.silence now) (newer_refusal held.silence now) (size_refusal (ended_version held now retention ∷ [])) passed))

-- ---- replies
refused_or : (now : ℕ) (refusal : Option SilenceError) (Done : Reply → Made → Type 0) (reply : Reply) (made : Made) →
    (refusal ≡ None → Done reply made → MadeNow now made) → RefusedOr refusal Done reply made → MadeNow now made
refused_or now None Done reply made done is = done refl is
refused_or now (Some error) Done reply made done is = none_made now made is.nothing

request_now : (old : InstanceState) (request : Request) (now : ℕ) (reply : Reply) (made : Made) → IsRequestReply old request now reply made → MadeNow now made
request_now old (requests.List filters) now reply made is = none_made now made is.1
request_now old (requests.Get id) now reply made is = none_made now made is.1
request_now old (requests.Post posted bits) now reply made is =
    let held = posted_over now old.silences posted.id in
    let post = post_of posted now bits old.config.retention in
    let Done : Reply → Made → Type 0 = IsDone (planned held post) in
    refused_or now _ Done reply made (λ none (done : IsDone (planned held post) reply made). some_made now made (versions (planned held post)) (planned_now held post) done.copies) is.answer
request_now old (requests.Delete id) now reply made is =
    let ended = ended_of (silence_in_view now old.silences id) now old.config.retention in
    let Done : Reply → Made → Type 0 = IsEnded ended in
    refused_or now _ Done reply made
    (λ none (done : IsEnded ended reply made). some_made now made (listed ended) (ended_of_now (silence_in_view now old.silences id) now old.config.retention none) done.copies) is

logged_now : (now : ℕ) (log : List LogMesh) (made_now : Bool) (entry : LogMesh) (reply : Reply) (made : Made) → IsEntryNow now entry → IsLogged now log made_now entry reply made → MadeNow now made
logged_now now log false entry reply made is logged = none_made now made logged.1
logged_now now log true entry reply made is logged = record {
  silences = subst (All (IsNow now)) (sym logged.1) (All-nil (IsNow now));
  log = subst (λ (o : Option LogMesh). All (IsEntryNow now) (listed o)) (sym logged.2) (All-cons (IsEntryNow now) entry [] is (All-nil (IsEntryNow now)));
}

pub reply_now : (old : InstanceState) (event : Event) (now : ℕ) (reply : Reply) (made : Made) → IsReply old event now reply made → MadeNow now made
reply_now old (events.Request request) now reply made is = request_now old request now reply made is
reply_now old (events.Frame sender frame) now reply made is = none_made now made is.1
reply_now old (events.Notified group_key receiver firing resolved repeat) now reply made is = logged_now now old.log _ _ reply made refl is
reply_now old (events.Decide group_key receiver firing resolved repeat send_resolved) now reply made is = none_made now made is.1
reply_now old (events.Mutes labels) now reply made is = none_made now made is.1
reply_now old events.Show now reply made is = none_made now made is.1
reply_now old events.Tick now reply made is = none_made now made is.1
reply_now old (events.PullFrom place) now reply made is = none_made now made is.1

pub frame_makes_nothing : (made : Made) → IsNothing made → made_here made ≡ []
frame_makes_nothing made nothing =
    ap (λ vs. map OfSilence vs ++ map OfEntry (listed made.log)) nothing.silences ∙ ap (λ (o : Option LogMesh). map OfEntry (listed o)) nothing.log

-- of each state
pub silences_now : (now : ℕ) (made : Made) → MadeNow now made → All (λ v. (mesh_version v).updated ≡ now) (silences_in (made_here made))
silences_now now made is = subst (All (IsNow now)) (sym (silences_parted made.silences.items (listed made.log))) is.silences

pub entries_now : (now : ℕ) (made : Made) → MadeNow now made → All (λ e. (entry_version e).updated ≡ now) (entries_in (made_here made))
entries_now now made is = subst (All (IsEntryNow now)) (sym (entries_parted made.silences.items (listed made.log))) is.log
