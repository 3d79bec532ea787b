-- The work of an event, put together of its parts.
use Rattle.std.proofs.Common.{◌≡◌, ℕ, List, [], ◌∷◌, ◌++◌, Bool, true, false, map, ap, refl, sym, subst, ◌∙◌, append-nil, inl}
use Rattle.std.specs.Prelude.{Option, Some, None, Ok, Err, if◌then◌else◌}
use Rattle.std.specs.Ordering.{nat_cmp}
use Rattle.std.specs.Cmp.Lexicographic.{slice_cmp}
use Rattle.am_wire.specs.declared.unknown.Unknown.{Unknown}
use Rattle.am_nflog.specs.Keys.{key_cmp}
use Rattle.am_collect.specs.Events.{MapEvent, after_all}
use Rattle.am_collect.specs.Events.MapEvent.{Collected}
use Rattle.am_gossip.specs.declared.refusals.StepError.{StepError}
use Rattle.am_silence.specs.Mesh.{Mesh, mesh_version}
use Rattle.am_nflog.specs.Mesh.{Mesh as LogMesh, mesh_version as entry_version}
use Rattle.am_merge.specs.Maps.{if_live}
use Rattle.am_nflog.specs.LogKeys.{LogKey}
use Rattle.am_instance.specs.declared.event.Event.{Event}
use Rattle.am_gossip.specs.declared.refusals.StepError.TheVariants.{Memory}
use Rattle.am_instance.specs.declared.reply.Made.{Made}
use Rattle.am_instance.specs.declared.reply.Outcome.{Outcome}
use Rattle.am_instance.specs.Configs.{peers_but}
use Rattle.am_instance.specs.Deliveries.{Delivery, to_silences, to_log, events_at}
use Rattle.am_instance.specs.Deliveries.Delivery.{OfSilence, OfEntry}
use Rattle.am_instance.specs.InstanceStates.{InstanceState, silence_at, entry_at}
use Rattle.am_instance.specs.Changes.{changed_of}
use Rattle.am_instance.specs.Sendings.{Sends, deltas_to, nothing_sent, sent_by}
use Rattle.am_instance.specs.Replies.{IsReply, IsNothing, AreSilencesMade, listed}
use Rattle.am_instance.specs.Steps.{IsWork, AreSwept, Delivers, brought, collects, delivers, fault_of, last_wanted, made_here, refused_anyway, origin, step_events, wanted, deltas_here}
use Rattle.am_instance.proofs.Arrivals.{delivers_none}

pub made_nothing : (made : Made) → IsNothing made → made_here made ≡ []
made_nothing made nothing = ap (λ (vs : List Mesh). map OfSilence vs ++ map OfEntry (listed made.log)) nothing.silences ∙ ap (λ (e : Option LogMesh). map OfEntry (listed e)) nothing.log

pub made_silences : (made : Made) (vs : List Mesh) → AreSilencesMade made vs → made_here made ≡ map OfSilence vs
made_silences made vs are =
    ap (λ (xs : List Mesh). map OfSilence xs ++ map OfEntry (listed made.log)) are.silences
    ∙ ap (λ (e : Option LogMesh). map OfSilence vs ++ map OfEntry (listed e)) are.log ∙ append-nil (map OfSilence vs)

pub made_entry_here : (made : Made) (entry : LogMesh) → made.silences.items ≡ [] → made.log ≡ Some entry → made_here made ≡ OfEntry entry ∷ []
made_entry_here made entry none is =
    ap (λ (xs : List Mesh). map OfSilence xs ++ map OfEntry (listed made.log)) none ∙ ap (λ (e : Option LogMesh). map OfEntry (listed e)) is

-- what a step that was answered and doesn't collect is to a map
events_of_answer : {X : Type 0} (of_delivery : Delivery → MapEvent X) (unknown : Unknown) (event : Event) (now : ℕ) (outcome : Outcome) (ds : List Delivery) →
    collects event ≡ false → delivers unknown event outcome.made ≡ ds → step_events of_delivery unknown event now (Ok outcome) ≡ events_at of_delivery now ds
events_of_answer of_delivery unknown event now outcome ds stays is =
    ap (λ (test : Bool). if test then (Collected, now) ∷ [] else events_at of_delivery now (delivers unknown event outcome.made)) stays ∙ ap (events_at of_delivery now) is

-- An event that was answered and doesn't collect: what it delivers changes the maps, and its frames are those that are wanted.
pub answered : (old new : InstanceState) (event : Event) (now : ℕ) (outcome : Outcome) (ds : List Delivery) →
    collects event ≡ false → delivers old.config.unknown event outcome.made ≡ ds → Delivers now ds old new → fault_of old.config now event ≡ None →
    Sends (deltas_to (peers_but old.config (origin old.config event)) (changed_of now (silence_at old.silences) (entry_at old.log) ds) ++ last_wanted event new) nothing_sent (sent_by outcome) →
    IsReply old event now outcome.reply outcome.made → IsWork old event now (Ok outcome) new
answered old new event now outcome ds stays is delivered sound sent reply = record {
  config = delivered.config;
  last = delivered.last;
  silences = delivered.silences ∙ sym (ap (after_all mesh_version (slice_cmp nat_cmp) (silence_at old.silences)) (events_of_answer to_silences old.config.unknown event now outcome ds stays is));
  log = delivered.log ∙ sym (ap (after_all entry_version key_cmp (entry_at old.log)) (events_of_answer to_log old.config.unknown event now outcome ds stays is));
  answer = record {
    sound = sound;
    swept = λ collected. absurd cc;
    sent = subst (λ xs. Sends (deltas_to (peers_but old.config (origin old.config event)) (changed_of now (silence_at old.silences) (entry_at old.log) xs) ++ last_wanted event new) nothing_sent (sent_by outcome)) (sym is) sent;
    reply = reply;
  };
}

-- one that brings nothing, makes nothing and sends nothing
pub quiet_work : (old : InstanceState) (event : Event) (now : ℕ) (outcome : Outcome) → collects event ≡ false → brought old.config.unknown event ≡ [] → last_wanted event old ≡ [] →
    fault_of old.config now event ≡ None → sent_by outcome ≡ nothing_sent → IsNothing outcome.made → IsReply old event now outcome.reply outcome.made →
    IsWork old event now (Ok outcome) old
quiet_work old event now outcome stays brings last sound sent nothing reply =
    answered old old event now outcome [] stays (ap (λ xs. xs ++ made_here outcome.made) brings ∙ made_nothing outcome.made nothing) (delivers_none now old) sound
    (subst (λ xs. Sends xs nothing_sent (sent_by outcome)) (sym last) sent) reply

-- one that brings nothing and takes what it made here
pub made_work : (old new : InstanceState) (event : Event) (now : ℕ) (outcome : Outcome) (ds : List Delivery) → collects event ≡ false → brought old.config.unknown event ≡ [] → last_wanted event new ≡ [] →
    origin old.config event ≡ old.config.place → fault_of old.config now event ≡ None → made_here outcome.made ≡ ds → Delivers now ds old new →
    Sends (deltas_here old now ds) nothing_sent (sent_by outcome) → IsReply old event now outcome.reply outcome.made → IsWork old event now (Ok outcome) new
made_work old new event now outcome ds stays brings last own sound is delivered sent reply =
    let whole : deltas_here old now ds ≡ deltas_to (peers_but old.config (origin old.config event)) (changed_of now (silence_at old.silences) (entry_at old.log) ds) ++ last_wanted event new =
    sym (append-nil (deltas_here old now ds))
    ∙ ap (λ (place : ℕ). deltas_to (peers_but old.config place) (changed_of now (silence_at old.silences) (entry_at old.log) ds) ++ []) (sym own)
    ∙ ap (λ xs. deltas_to (peers_but old.config (origin old.config event)) (changed_of now (silence_at old.silences) (entry_at old.log) ds) ++ xs) (sym last) in
    answered old new event now outcome ds stays (ap (λ xs. xs ++ made_here outcome.made) brings ∙ is) delivered sound
    (subst (λ xs. Sends xs nothing_sent (sent_by outcome)) whole sent) reply

-- memory ran out before anything was taken
pub memory_work : (old new : InstanceState) (event : Event) (now : ℕ) → new ≡ old → refused_anyway old event now ≡ None → IsWork old event now (Err (Memory 0)) new
memory_work old new event now same wanting = subst (λ stand. IsWork old event now (Err (Memory 0)) stand) (sym same) (record {
  config = refl;
  last = refl;
  silences = refl;
  log = refl;
  answer = (inl refl, wanting);
})

-- memory ran out, or something else did not
pub stopped_work : (old new : InstanceState) (event : Event) (now : ℕ) (e : StepError) → e ≡ Memory 0 → new ≡ old → refused_anyway old event now ≡ None → IsWork old event now (Err e) new
stopped_work old new event now e is same wanting = subst (λ error. IsWork old event now (Err error) new) (sym is) (memory_work old new event now same wanting)

nothing_wanted : (old new : InstanceState) (event : Event) (now : ℕ) (made : Made) → brought old.config.unknown event ≡ [] → last_wanted event new ≡ [] → IsNothing made → wanted old event now made new ≡ []
nothing_wanted old new event now made brings last nothing =
    ap (λ ds. deltas_to (peers_but old.config (origin old.config event)) (changed_of now (silence_at old.silences) (entry_at old.log) ds) ++ last_wanted event new)
    (ap (λ xs. xs ++ made_here made) brings ∙ made_nothing made nothing)
    ∙ last

-- an event that collects
pub collected_work : (old new : InstanceState) (event : Event) (now : ℕ) (outcome : Outcome) → collects event ≡ true → brought old.config.unknown event ≡ [] → last_wanted event new ≡ [] →
    fault_of old.config now event ≡ None → new.config ≡ old.config → new.last ≡ old.last → AreSwept now old new →
    ((key : List ℕ) → silence_at new.silences key ≡ if_live mesh_version now (silence_at old.silences key)) →
    ((key : LogKey) → entry_at new.log key ≡ if_live entry_version now (entry_at old.log key)) →
    sent_by outcome ≡ nothing_sent → IsNothing outcome.made → IsReply old event now outcome.reply outcome.made → IsWork old event now (Ok outcome) new
collected_work old new event now outcome collected brings last_none sound config last swept silences log sent nothing reply = record {
  config = config;
  last = last;
  silences = (λ i key. silences key i) ∙ sym (ap (after_all mesh_version (slice_cmp nat_cmp) (silence_at old.silences)) (ap (λ (test : Bool). if test then (Collected, now) ∷ [] else events_at to_silences now (delivers old.config.unknown event outcome.made)) collected));
  log = (λ i key. log key i) ∙ sym (ap (after_all entry_version key_cmp (entry_at old.log)) (ap (λ (test : Bool). if test then (Collected, now) ∷ [] else events_at to_log now (delivers old.config.unknown event outcome.made)) collected));
  answer = record {
    sound = sound;
    swept = λ _. swept;
    sent = subst (λ xs. Sends xs nothing_sent (sent_by outcome)) (sym (nothing_wanted old new event now outcome.made brings last_none nothing)) sent;
    reply = reply;
  };
}
