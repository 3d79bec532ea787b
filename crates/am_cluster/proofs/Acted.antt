-- The facts about an instance's step that recording it needs.
use Rattle.am_wire.specs.declared.unknown.Unknown.TheVariants.{Drop}
use Rattle.std.proofs.Common.{◌≡◌, ◌⊎◌, inl, inr, arith, ℕ, Bool, true, false, cond, eqb, ltb, List, [], Result, Ok, Err, refl, sym, subst, length, not, IfOk, ◌<◌, ◌∙◌}
use Rattle.std.specs.Prelude.{All, Contains, IfSome, None, ◌≤◌}
use Rattle.std.proofs.lemmas.List.Elements.{All-nil, All-weaker, All-contains, All-contains_itself}
use Rattle.std.proofs.lemmas.Bool.{and_parts, eqb-false, ltb-true, not-true}
use Rattle.std.proofs.lemmas.Bool.Decides.{eqb_tells}
use Rattle.am_silence.specs.Mesh.{IsMesh}
use Rattle.am_nflog.specs.Mesh.{IsMesh as IsLogMesh}
use Rattle.am_gossip.specs.declared.frame.Frame.{Frame}
use Rattle.am_instance.specs.declared.event.Event.{Event}
use Rattle.am_instance.specs.declared.event.Event.TheVariants as events
use Rattle.am_gossip.specs.declared.refusals.StepError.{StepError}
use Rattle.am_gossip.specs.declared.refusals.StepError.TheVariants.{Memory, MomentBack, UnknownPeer, Frame as FrameFault}
use Rattle.am_instance.specs.declared.reply.Made.{Made}
use Rattle.am_instance.specs.declared.reply.Outcome.{Outcome}
use Rattle.am_instance.specs.declared.reply.Reply.{Reply}
use Rattle.am_instance.specs.Configs.{Settings, is_peer}
use Rattle.am_instance.specs.Deliveries.{first_fault, rows_in, parts_of}
use Rattle.am_instance.specs.Laws.{HasMaps}
use Rattle.am_instance.specs.Replies.{IsNothing}
use Rattle.am_instance.specs.InstanceStates.{InstanceState, HoldsWhole}
use Rattle.am_instance.specs.Steps.{IsAccepted, brought, delivers}
use Rattle.am_instance.specs.OneStep.{IsStep}
use Rattle.am_runs.specs.declared.step.DeliverySource.{DeliverySource}
use Rattle.am_runs.specs.Steps.{RunStep}
use Rattle.am_cluster.specs.BothStates.{StateOf}
use Rattle.am_cluster.specs.Contents.{IsValue}
use Rattle.am_runs.specs.Runs.{IsPossible}
use Rattle.am_cluster.specs.Recorded.{AreInFlight, AreValues, HasSource, event_step}
use Rattle.am_cluster.specs.StepLaws.{StepsArePossible}
use Rattle.am_cluster.specs.Acting.{CanHappenIn}
use Rattle.am_cluster.specs.declared.error.ClusterError.{ClusterError}
use Rattle.am_cluster.specs.declared.recording.Kind.TheVariants as kinds
use Rattle.am_cluster.specs.Events.{IsTold, drops}
use Rattle.am_cluster.specs.declared.writing.Entry.{Entry}
use Rattle.am_cluster.specs.Recording.{CanBeNext, IsNoRefusal, brings_or_makes}
use Rattle.am_cluster.specs.Ties.{CanFly}

-- an event against which no cause stands isn't refused, memory aside
pub not_refused : (before stand : InstanceState) (event : Event) (now : ℕ) (answer : Result Outcome StepError) → IsAccepted before event now →
    IsStep before event now answer stand → IsNoRefusal answer
not_refused before stand event now (Ok outcome) accepted step = tt
not_refused before stand event now (Err (MomentBack last)) accepted step = let less : now < before.last = step.refused.1 in let forward : before.last ≤ now = accepted.forward in absurd (omega arith)
not_refused before stand event now (Err UnknownPeer) accepted step = absurd (let known = sym accepted.known ∙ step.refused.1 in cc)
not_refused before stand event now (Err (Memory taken)) accepted step = tt
not_refused before stand event now (Err (FrameFault fault)) accepted step = absurd (let is = sym accepted.sound ∙ step.refused.2 in cc)

-- what holds of every outcome holds of the answer
pub on_ok : (P : Outcome → Type 0) (before stand : InstanceState) (event : Event) (now : ℕ) (answer : Result Outcome StepError) →
    ((outcome : Outcome) → IsStep before event now (Ok outcome) stand → P outcome) → IsStep before event now answer stand → IfOk answer P
on_ok P before stand event now (Ok outcome) each step = each outcome step
on_ok P before stand event now (Err e) each step = tt

-- and where something is known of the outcome
pub on_ok_and : (Q P : Outcome → Type 0) (before stand : InstanceState) (event : Event) (now : ℕ) (answer : Result Outcome StepError) →
    ((outcome : Outcome) → Q outcome → IsStep before event now (Ok outcome) stand → P outcome) → IfOk answer Q → IsStep before event now answer stand → IfOk answer P
on_ok_and Q P before stand event now (Ok outcome) each known step = each outcome known step
on_ok_and Q P before stand event now (Err e) each known step = tt

-- what brings versions makes none
pub brings_nothing : (before stand : InstanceState) (event : Event) (now : ℕ) (outcome : Outcome) →
    ((sender : ℕ) (frame : Frame) → IsStep before (events.Frame sender frame) now (Ok outcome) stand → IsNothing outcome.made) →
    IsStep before event now (Ok outcome) stand → brings_or_makes event ≡ kinds.Brings → IsNothing outcome.made
brings_nothing before stand (events.Request request) now outcome each step brings = absurd cc
brings_nothing before stand (events.Frame sender frame) now outcome each step brings = each sender frame step
brings_nothing before stand (events.Notified group_key receiver firing resolved repeat) now outcome each step brings = absurd cc
brings_nothing before stand (events.Decide group_key receiver firing resolved repeat send_resolved) now outcome each step brings = absurd cc
brings_nothing before stand (events.Mutes labels) now outcome each step brings = absurd cc
brings_nothing before stand events.Show now outcome each step brings = absurd cc
brings_nothing before stand events.Tick now outcome each step brings = absurd cc
brings_nothing before stand (events.PullFrom place) now outcome each step brings = absurd cc

-- what is no frame brings none
pub nothing_brought : (event : Event) → ((sender : ℕ) (frame : Frame) → event ≡ events.Frame sender frame → ⊥) → brought Drop event ≡ []
nothing_brought (events.Request request) no_frame = refl
nothing_brought (events.Frame sender frame) no_frame = absurd (no_frame sender frame refl)
nothing_brought (events.Notified group_key receiver firing resolved repeat) no_frame = refl
nothing_brought (events.Decide group_key receiver firing resolved repeat send_resolved) no_frame = refl
nothing_brought (events.Mutes labels) no_frame = refl
nothing_brought events.Show no_frame = refl
nothing_brought events.Tick no_frame = refl
nothing_brought (events.PullFrom place) no_frame = refl

pub values_known : (event : Event) (stand : InstanceState) (answer : Result Outcome StepError) →
    ((made : Made) → All IsMesh made.silences.items → IfSome made.log IsLogMesh → All IsValue (delivers Drop event made)) →
    IfOk answer (λ outcome. All IsMesh outcome.made.silences.items) → IfOk answer (λ outcome. IfSome outcome.made.log IsLogMesh) →
    All IsMesh stand.silences → All IsLogMesh stand.log → HasMaps stand → IfOk answer (λ outcome. AreValues Drop event outcome stand)
values_known event stand (Ok outcome) each silences log held_silences held_log maps = record { delivered = each outcome.made silences log; silences = held_silences; log = held_log; maps = maps }
values_known event stand (Err e) each silences log held_silences held_log maps = tt

all_flown : (P : ℕ × Frame → Type 0) (dropped : Bool) (frames : List (ℕ × Frame)) → All P frames → All P (cond dropped [] frames)
all_flown P true frames all = All-nil P
all_flown P false frames all = all

all_or_none : (dropped : Bool) (frames all : List (ℕ × Frame)) → frames ≡ cond dropped [] all → (frames ≡ all) ⊎ (frames ≡ [])
all_or_none true frames all are = inr are
all_or_none false frames all are = inl are

-- the frames that fly are among those that were sent
pub told_frames : (source : DeliverySource) (P : ℕ × Frame → Type 0) (answer : Result Outcome StepError) (frames : List (ℕ × Frame)) (result : Result Reply ClusterError) →
    IfOk answer (λ outcome. All P outcome.frames.items) → IsTold source answer frames result → All P frames
told_frames source P (Ok outcome) frames (Ok reply) all told = subst (All P) (sym told.1) (all_flown P (drops source) outcome.frames.items all)
told_frames source P (Ok outcome) frames (Err e) all told = subst (All P) (sym told.1) (All-nil P)
told_frames source P (Err (MomentBack last)) frames (Err e) all told = absurd told
told_frames source P (Err UnknownPeer) frames (Err e) all told = absurd told
told_frames source P (Err (Memory taken)) frames (Err e) all told = subst (All P) (sym told.1) (All-nil P)
told_frames source P (Err (FrameFault fault)) frames (Err e) all told = absurd told
told_frames source P (Err (MomentBack last)) frames (Ok reply) all told = absurd told
told_frames source P (Err UnknownPeer) frames (Ok reply) all told = absurd told
told_frames source P (Err (Memory taken)) frames (Ok reply) all told = absurd told
told_frames source P (Err (FrameFault fault)) frames (Ok reply) all told = absurd told

pub told_flying : (source : DeliverySource) (answer : Result Outcome StepError) (frames : List (ℕ × Frame)) (result : Result Reply ClusterError) → IsTold source answer frames result → AreInFlight answer frames
told_flying source (Ok outcome) frames (Ok reply) told = all_or_none (drops source) frames outcome.frames.items told.1
told_flying source (Ok outcome) frames (Err e) told = inr told.1
told_flying source (Err (MomentBack last)) frames (Err e) told = absurd told
told_flying source (Err UnknownPeer) frames (Err e) told = absurd told
told_flying source (Err (Memory taken)) frames (Err e) told = told.1
told_flying source (Err (FrameFault fault)) frames (Err e) told = absurd told
told_flying source (Err (MomentBack last)) frames (Ok reply) told = absurd told
told_flying source (Err UnknownPeer) frames (Ok reply) told = absurd told
told_flying source (Err (Memory taken)) frames (Ok reply) told = absurd told
told_flying source (Err (FrameFault fault)) frames (Ok reply) told = absurd told

turned : (a b : ℕ) → eqb a b ≡ false → eqb b a ≡ false
turned a b other = elim (eqb_tells b a) [ inl same ↦ absurd (eqb-false a b other (sym same.1)) | inr apart ↦ apart.0 ]

-- a peer is another member
pub peer_flies : (settings : Settings) (members place : ℕ) (frame : ℕ × Frame) → settings.place ≡ place → length settings.members ≡ members →
    first_fault (rows_in Drop (parts_of frame.1)) ≡ None → is_peer settings frame.0 ≡ true → CanFly members place frame
peer_flies settings members place frame own all sound peer =
    let parts = and_parts (ltb frame.0 (length settings.members)) (not (eqb frame.0 settings.place)) peer in record {
      no_fault = sound;
      addressee = subst (λ n. frame.0 < n) all (ltb-true frame.0 (length settings.members) parts.0);
      other = subst (λ p. eqb p frame.0 ≡ false) own (turned frame.0 settings.place (not-true (eqb frame.0 settings.place) parts.1));
    }

pub all_fly_from : (settings : Settings) (members place : ℕ) (frames : List (ℕ × Frame)) → settings.place ≡ place → length settings.members ≡ members →
    All (λ frame. first_fault (rows_in Drop (parts_of frame.1)) ≡ None) frames → All (λ frame. is_peer settings frame.0 ≡ true) frames → All (CanFly members place) frames
all_fly_from settings members place frames own all sound peers =
    All-weaker (Contains frames) (CanFly members place)
    (λ frame within. peer_flies settings members place frame own all
    (All-contains (λ f. first_fault (rows_in Drop (parts_of f.1)) ≡ None) frames frame sound within) (All-contains (λ f. is_peer settings f.0 ≡ true) frames frame peers within))
    frames (All-contains_itself frames)

-- the step of an instance, to which an event can come, can come next in a run
pub can_be_next : {K X : Type 0} (state : StateOf K X) → StepsArePossible state → (members : ℕ) (steps : List (RunStep X)) (entry : Entry) (event : Event) (old new : InstanceState) (answer : Result Outcome StepError) →
    CanHappenIn state members steps entry event old → old.config.unknown ≡ Drop → HoldsWhole old → IsStep old event entry.moment answer new →
    IfOk answer (λ outcome. AreValues Drop event outcome new) → CanBeNext state members steps entry event answer
can_be_next state law members steps entry event old new answer can drops whole step values = λ frames flying.
    subst (λ u. IsPossible state.seen state.cmp members steps (event_step state u entry.place entry.moment entry.source event answer frames)) drops
    (law members entry.place entry.moment steps entry.source old new event answer frames (λ counts. can.runs) can.gone step
    (subst (λ u. HasSource state u members steps entry.moment event entry.source) (sym drops) can.from) whole flying
    (subst (λ u. IfOk answer (λ outcome. AreValues u event outcome new)) (sym drops) values))

-- nothing in what a member that drops unknown fields sent is at fault
pub all_sound : (old new : InstanceState) (event : Event) (outcome : Outcome) → old.config.unknown ≡ Drop →
    (AreValues old.config.unknown event outcome new → All (λ frame. first_fault (rows_in old.config.unknown (parts_of frame.1)) ≡ None) outcome.frames.items) →
    AreValues Drop event outcome new → All (λ frame. first_fault (rows_in Drop (parts_of frame.1)) ≡ None) outcome.frames.items
all_sound old new event outcome drops law known =
    subst (λ u. All (λ frame. first_fault (rows_in u (parts_of frame.1)) ≡ None) outcome.frames.items) drops
    (law (subst (λ u. AreValues u event outcome new) (sym drops) known))
