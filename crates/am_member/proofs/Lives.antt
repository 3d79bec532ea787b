-- The steps of a member's turns.
use Rattle.std.proofs.Common.{◌≡◌, ◌⊎◌, inl, inr, ℕ, ◌++◌, Bool, true, List, [], ◌∷◌, map, Option, None, Some, Result, Ok, Err, IfOk, IfErr, refl, sym, subst, ap, ◌∙◌, append_assoc, append-nil}
use Rattle.std.proofs.lemmas.List.{map-append}
use Rattle.std.proofs.lemmas.Option.{none-some}
use Rattle.std.specs.List.{AllByRecursion}
use Rattle.am_gossip.specs.declared.frame.Frame.{Frame}
use Rattle.am_http.specs.declared.refusal.Refusal.{Refusal}
use Rattle.am_http.specs.declared.request.Read.{Read}
use Rattle.am_http.specs.declared.request.Read.TheVariants.{More, Whole, Refused}
use Rattle.am_instance.specs.Configs.{Settings}
use Rattle.am_instance.specs.Deliveries.{to_silences, to_log}
use Rattle.am_instance.specs.InstanceStates.{InstanceState, AreSilencesLeftBy, IsLogLeftBy, kept_silences, kept_log}
use Rattle.am_instance.specs.Laws.{AreMade, Happened}
use Rattle.am_instance.specs.OneStep.{IsStep}
use Rattle.am_instance.specs.Steps.{step_events}
use Rattle.am_gossip.specs.declared.refusals.StepError.{StepError}
use Rattle.am_instance.specs.declared.event.Event.{Event}
use Rattle.am_instance.specs.declared.event.Event.TheVariants as events
use Rattle.am_instance.specs.declared.reply.Outcome.{Outcome}
use Rattle.am_api_silences.specs.Answers.{Answered, IsRefusalAnswer, IsRequestAnswer, IsStepAnswer, with_reply}
use Rattle.am_http.specs.Sessions.{SessionPhase, name_of}
use Rattle.am_member.specs.Sparing.{deferred}
use Rattle.am_peers.specs.declared.fault.ConnectionFault.{ConnectionFault}
use Rattle.am_peers.specs.declared.fault.ConnectionFault.TheVariants.{Read as InRead, Write, TooLarge, Frame as InFrame, UnknownName, Step}
use Rattle.am_member.specs.declared.session_answer.SessionAnswer.{SessionAnswer}
use Rattle.am_member.specs.Incoming.{MakesAll, SoFar, StopsAt, no_effects, so_far}
use Rattle.am_member.proofs.Finished.{finish_of}
use Rattle.am_member.specs.Exchanging.{AreStepped, IsReadAnswer, IsSessionAnswer, is_stopped}
use Rattle.am_member.specs.Lives.{AreEventsOf, AreEventsOfFrames, AreEventsOfRead, AreStepsOf, AreStepsOfAll, Deed, IsLife, IsTurn, Turn, listed, session_phases_after}
use Rattle.am_member.specs.Lives.Deed.{Served, Own}

-- steps behind others
pub made_append : (old mid new : InstanceState) (steps others : List Happened) → AreMade old steps mid → AreMade mid others new → AreMade old (steps ++ others) new
made_append old mid new [] others same more = subst (λ (s : InstanceState). AreMade s others new) same more
made_append old mid new (h ∷ hs) others made more = (made.0, made.1, made_append h.left mid new hs others made.2 more)

-- what a step changed, read by the configuration that it left as it was
by_its_own : (old new : InstanceState) (event : Event) (now : ℕ) (answer : Result Outcome StepError) → IsStep old event now answer new →
    AreSilencesLeftBy (kept_silences old) (step_events to_silences new.config.unknown event now answer) (kept_silences new)
    × IsLogLeftBy (kept_log old) (step_events to_log new.config.unknown event now answer) (kept_log new)
by_its_own old new event now answer step = (
  subst (λ (c : Settings). AreSilencesLeftBy (kept_silences old) (step_events to_silences c.unknown event now answer) (kept_silences new)) (sym step.config) step.silences,
  subst (λ (c : Settings). IsLogLeftBy (kept_log old) (step_events to_log c.unknown event now answer) (kept_log new)) (sym step.config) step.log,
)

-- one step that was made
one_made : (old new : InstanceState) (event : Event) (now : ℕ) (answer : Result Outcome StepError) → IsStep old event now answer new →
    AreMade old (record { event = event; now = now; answer = answer; left = new } ∷ []) new
one_made old new event now answer step = let left = by_its_own old new event now answer step in (left.0, left.1, refl)

-- the frames of a peer, as events
abbrev pub sent_from : ℕ → List Frame → List Event
sent_from sender frames = map (λ frame. events.Frame sender frame) frames

-- steps with these events, all at one moment
pub record AreStepsAt (now : ℕ) (asked : List Event) (old : InstanceState) (steps : List Happened) (new : InstanceState) : Type 0 where
  pub asks : map (λ step. step.event) steps ≡ asked
  pub moments : AllByRecursion (λ step. step.now ≡ now) steps
  pub made : AreMade old steps new

-- one more before them
step_before : (now : ℕ) (event : Event) (asked : List Event) (answer : Result Outcome StepError) (old mid new : InstanceState) →
    IsStep old event now answer mid → ((steps : List Happened) × AreStepsAt now asked mid steps new) →
    (steps : List Happened) × AreStepsAt now (event ∷ asked) old steps new
step_before now event asked answer old mid new step more = (
  record { event = event; now = now; answer = answer; left = mid } ∷ more.0,
  record {
    asks = ap (λ (es : List Event). event ∷ es) more.1.asks;
    moments = (refl, more.1.moments);
    made = (let left = by_its_own old mid event now answer step in (left.0, left.1, more.1.made));
  },
)

-- no step
none_at : (now : ℕ) (old new : InstanceState) → new ≡ old → (steps : List Happened) × AreStepsAt now [] old steps new
none_at now old new same = ([], record { asks = refl; moments = tt; made = same })

-- the steps of frames
pub all_steps : (sender now : ℕ) (frames : List Frame) (before after : SoFar) → MakesAll sender now frames before after →
    (steps : List Happened) × AreStepsAt now (sent_from sender frames) before.instance steps after.instance
all_steps sender now [] before after same = none_at now before.instance after.instance (ap (λ (s : SoFar). s.instance) same)
all_steps sender now (frame ∷ frames) before after made =
    step_before now (events.Frame sender frame) (sent_from sender frames) (Ok made.1.outcome) before.instance made.0.instance after.instance made.1.step
    (all_steps sender now frames made.0 after made.2)

-- all at the same moment, also with others behind them
moments_append : (now : ℕ) (steps others : List Happened) → AllByRecursion (λ step. step.now ≡ now) steps → AllByRecursion (λ step. step.now ≡ now) others →
    AllByRecursion (λ step. step.now ≡ now) (steps ++ others)
moments_append now [] others none more = more
moments_append now (h ∷ hs) others all more = (all.0, moments_append now hs others all.1 more)

-- the event of a step
abbrev event_of : Happened → Event
event_of step = step.event

-- steps behind others, at the same moment
at_append : (now : ℕ) (asked more : List Event) (steps others : List Happened) (old mid new : InstanceState) → AreStepsAt now asked old steps mid → AreStepsAt now more mid others new →
    AreStepsAt now (asked ++ more) old (steps ++ others) new
at_append now asked more steps others old mid new first second = record {
  asks = map-append event_of steps others ∙ (ap (λ (es : List Event). es ++ map event_of others) first.asks ∙ ap (λ (es : List Event). asked ++ es) second.asks);
  moments = moments_append now steps others first.moments second.moments;
  made = made_append old mid new steps others first.made second.made;
}

-- what the steps of a turn are of events that were asked for: all of them at its moment, or up to one that was refused
pub record AreStepsUpTo (now : ℕ) (asked : List Event) (stopped : Bool) (old : InstanceState) (steps : List Happened) (new : InstanceState) : Type 0 where
  pub others : List Event
  pub parts : asked ≡ map (λ step. step.event) steps ++ others
  pub whole : (others ≡ []) ⊎ (stopped ≡ true)
  pub moments : AllByRecursion (λ step. step.now ≡ now) steps
  pub made : AreMade old steps new

-- all of them
whole_steps : (now : ℕ) (asked : List Event) (stopped : Bool) (old new : InstanceState) → ((steps : List Happened) × AreStepsAt now asked old steps new) →
    (steps : List Happened) × AreStepsUpTo now asked stopped old steps new
whole_steps now asked stopped old new all = (
  all.0,
  record { others = []; parts = sym (append-nil (map event_of all.0) ∙ all.1.asks); whole = inl refl; moments = all.1.moments; made = all.1.made },
)

-- the steps up to the first one that is refused
stop_steps : (sender now : ℕ) (frames : List Frame) (before after : SoFar) (error : StepError) → StopsAt sender now frames before after error →
    (steps : List Happened) × AreStepsUpTo now (sent_from sender frames) true before.instance steps after.instance
stop_steps sender now frames before after error stop =
    let old : InstanceState = before.instance in
    let new : InstanceState = after.instance in
    let event : Event = events.Frame sender stop.frame in
    let made = all_steps sender now stop.made before (so_far stop.mid after.effects) stop.made_all in
    let last = step_before now event [] (Err error) stop.mid new new stop.refused (none_at now new new refl) in
    let both = at_append now (sent_from sender stop.made) (event ∷ []) made.0 last.0 old stop.mid new made.1 last.1 in (
      made.0 ++ last.0,
      record {
        others = sent_from sender stop.others;
        parts = ap (sent_from sender) stop.frames_are ∙ (map-append (λ (frame : Frame). events.Frame sender frame) stop.made (stop.frame ∷ stop.others)
            ∙ (sym (append_assoc (sent_from sender stop.made) (event ∷ []) (sent_from sender stop.others))
            ∙ ap (λ (es : List Event). es ++ sent_from sender stop.others) (sym both.asks)));
        whole = inr refl;
        moments = both.moments;
        made = both.made;
      },
    )

-- ---- the steps of frames

-- steps of the events of frames
record FrameSteps (name : Option (List ℕ)) (now : ℕ) (frames : List Frame) (stopped : Bool) (old new : InstanceState) : Type 0 where
  asked : List Event
  are : AreEventsOfFrames old.config name frames asked
  steps : (steps : List Happened) × AreStepsUpTo now asked stopped old steps new

-- what the frames of a connection did
stepped_steps : (name : Option (List ℕ)) (now : ℕ) (frames : List Frame) (before after : SoFar) (steps : Result Unit ConnectionFault) (told : Option ConnectionFault) → AreStepped name now frames before after steps →
    IfErr steps (λ stop. told ≡ Some stop) → FrameSteps name now frames (is_stopped told) before.instance after.instance
stepped_steps name now frames before after (Ok _) told stepped is = record {
  asked = sent_from stepped.0 frames;
  are = inr (stepped.0, stepped.1, refl);
  steps = whole_steps now (sent_from stepped.0 frames) (is_stopped told) before.instance after.instance (all_steps stepped.0 now frames before after stepped.2);
}
stepped_steps name now frames before after (Err UnknownName) told stepped is = record {
  asked = [];
  are = inl (refl, inr stepped.0);
  steps = whole_steps now [] (is_stopped told) before.instance after.instance (none_at now before.instance after.instance (ap (λ (s : SoFar). s.instance) stepped.1));
}
stepped_steps name now frames before after (Err (Step error)) told stepped is =
    subst (λ (f : Option ConnectionFault). FrameSteps name now frames (is_stopped f) before.instance after.instance) (sym is) (record {
      asked = sent_from stepped.0 frames;
      are = inr (stepped.0, stepped.1, refl);
      steps = stop_steps stepped.0 now frames before after error stepped.2;
    })
stepped_steps name now frames before after (Err (InRead at)) told stepped is = absurd stepped
stepped_steps name now frames before after (Err (Write written)) told stepped is = absurd stepped
stepped_steps name now frames before after (Err TooLarge) told stepped is = absurd stepped
stepped_steps name now frames before after (Err (InFrame error)) told stepped is = absurd stepped

-- ---- the step of a request

-- steps of the events of what was read
record ReadSteps (read : Read) (bits now : ℕ) (stopped : Bool) (old new : InstanceState) : Type 0 where
  asked : List Event
  are : AreEventsOfRead old.config.dialect read bits asked
  steps : (steps : List Happened) × AreStepsUpTo now asked stopped old steps new

-- what it means is one step or none
meant_steps : (meant : Result Event Refusal) (now : ℕ) (stopped : Bool) (old : InstanceState) (answered : Answered) (new : InstanceState) →
    IfErr meant (λ refusal. IsRefusalAnswer refusal old answered new) → IfOk meant (λ event. IsStepAnswer event old now answered new) →
    (steps : List Happened) × AreStepsUpTo now (listed meant) stopped old steps new
meant_steps (Ok event) now stopped old answered new refused stepped =
    whole_steps now (event ∷ []) stopped old new (step_before now event [] stepped.step old new new stepped.made (none_at now new new refl))
meant_steps (Err refusal) now stopped old answered new refused stepped = whole_steps now [] stopped old new (none_at now old new refused.same)

-- (its steps don't hang on what its reply is finished with)
read_steps : (read : Read) (bits now : ℕ) (stopped : Bool) (old new : InstanceState) (answer : SessionAnswer) → IsReadAnswer read bits now old new answer →
    ReadSteps read bits now stopped old new
read_steps (Whole request) bits now stopped old new answer done =
    let whole = finish_of done.begun.making in
    let answered : Answered = with_reply done.begun whole.0 in
    let given : IsRequestAnswer old request bits now answered new = done.such whole.0 whole.1 in record {
      asked = listed given.meant;
      are = (given.meant, given.means, refl);
      steps = meant_steps given.meant now stopped old answered new given.refused given.stepped;
    }
read_steps (Refused refusal) bits now stopped old new answer done =
    let whole = finish_of done.begun.making in
    let given : IsRefusalAnswer refusal old (with_reply done.begun whole.0) new = done.such whole.0 whole.1 in
    record { asked = []; are = refl; steps = whole_steps now [] stopped old new (none_at now old new given.same) }
read_steps More bits now stopped old new answer done =
    record { asked = []; are = refl; steps = whole_steps now [] stopped old new (none_at now old new done.same) }

-- ---- a turn

-- the steps of the events that were asked for, of a turn
steps_of_turn : (old : InstanceState) (turn : Turn) (asked : List Event) → AreEventsOf old.config (name_of turn.heard) turn.bits (deferred turn.said) asked →
    ((steps : List Happened) × AreStepsUpTo turn.now asked (is_stopped turn.answer.fault) old steps turn.left) →
    (steps : List Happened) × AreStepsOf old turn steps
steps_of_turn old turn asked said up_to = (
  up_to.0,
  record {
    asked = asked;
    said = said;
    others = up_to.1.others;
    parts = up_to.1.parts;
    whole = up_to.1.whole;
    moments = up_to.1.moments;
    made = up_to.1.made;
  },
)

abbrev or_given : {A : Type 0} → A → Option A → A
or_given other None = other
or_given other (Some x) = x

some_is : {A : Type 0} (x y : A) (o : Option A) → o ≡ Some x → o ≡ Some y → x ≡ y
some_is x y o is also = ap (or_given x) (sym is ∙ also)

turn_by : (old : InstanceState) (turn : Turn) (request : Option Read) → (deferred turn.said).request ≡ request →
    IsSessionAnswer (name_of turn.heard) turn.bits turn.now (deferred turn.said) old turn.left turn.answer → (steps : List Happened) × AreStepsOf old turn steps
turn_by old turn (Some read) is done =
    let found = read_steps read turn.bits turn.now (is_stopped turn.answer.fault) old turn.left turn.answer (done.asked read is) in
    steps_of_turn old turn found.asked
    (record {
      of_request = λ other also. subst (λ (r : Read). AreEventsOfRead old.config.dialect r turn.bits found.asked) (some_is read other (deferred turn.said).request is also) found.are;
      of_frames = λ none. absurd (none-some read (sym none ∙ is));
    })
    found.steps
turn_by old turn None is done =
    let heard = done.heard is in
    let found = stepped_steps (name_of turn.heard) turn.now (deferred turn.said).frames (so_far old no_effects) (so_far turn.left turn.answer.effects) heard.steps turn.answer.fault heard.stepped heard.stop in
    steps_of_turn old turn found.asked
    (record {
      of_request = λ read some. absurd (none-some read (sym is ∙ some));
      of_frames = λ none. found.are;
    })
    found.steps

pub turn_steps : (session_phase : SessionPhase) (old : InstanceState) (turn : Turn) → IsTurn session_phase old turn → (steps : List Happened) × AreStepsOf old turn steps
turn_steps session_phase old turn done = turn_by old turn (deferred turn.said).request refl done.answered

-- all deeds
pub life_steps : (session_phases : ℕ → SessionPhase) (start new : InstanceState) (deeds : List Deed) → IsLife session_phases start deeds new →
    (steps : List Happened) × AreStepsOfAll start deeds steps × AreMade start steps new
life_steps session_phases start new [] same = ([], refl, same)
life_steps session_phases start new (Served turn ∷ deeds) life =
    let own = turn_steps (session_phases turn.connection) start turn life.0 in
    let others = life_steps (session_phases_after session_phases turn) turn.left new deeds life.1 in (
      own.0 ++ others.0,
      (own.0, others.0, own.1, others.1, refl),
      made_append start turn.left new own.0 others.0 own.1.made others.2,
    )
life_steps session_phases start new (Own step ∷ deeds) life =
    let others = life_steps session_phases step.left new deeds life.1 in (step ∷ others.0, (others.0, others.1, refl), (let left = by_its_own start step.left step.event step.now step.answer life.0 in (left.0, left.1, others.2)))
