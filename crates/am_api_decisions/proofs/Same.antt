-- Asking alerts and deciding leave the instance as it was.
use Rattle.std.proofs.Common.{◌≡◌, ℕ, zero, suc, Bool, true, false, inl, inr, List, [], ◌∷◌, ◌++◌, map, take, Ok, Err, Result, refl, sym, ap, subst, ◌∙◌}
use Rattle.am_http.specs.Lines.{RefusalLine}
use Rattle.am_instance.specs.Deliveries.{Delivery, events_at, to_log, to_silences}
use Rattle.am_instance.specs.Deliveries.Delivery.{OfEntry, OfSilence}
use Rattle.am_instance.specs.InstanceStates.{AreSilencesLeftBy, InstanceState, IsLogLeftBy, kept_log, kept_silences}
use Rattle.am_instance.specs.OneStep.{IsStep}
use Rattle.am_instance.specs.Replies.{IsNothing, listed}
use Rattle.am_instance.specs.Steps.{made_here}
use Rattle.am_gossip.specs.declared.refusals.StepError.{StepError}
use Rattle.am_gossip.specs.declared.refusals.StepError.TheVariants.{Frame, Memory, MomentBack, UnknownPeer}
use Rattle.am_instance.specs.declared.event.Event.TheVariants as events
use Rattle.am_instance.specs.declared.reply.Made.{Made}
use Rattle.am_instance.specs.declared.reply.Outcome.{Outcome}
use Rattle.am_matcher.specs.declared.labels.Label.{Label}
use Rattle.am_api_silences.specs.declared.replies.ResponseBytes.{ResponseBytes}
use Rattle.am_api_decisions.specs.Asking.{AreAsked, AskedAlert, Counted, HoldsSame, StopsAt}
use Rattle.am_api_decisions.specs.Settling.{IsSettled, IsSettledBy, decide_event, has_none}
use Rattle.am_api_decisions.specs.declared.group.Group.{Group}
use Rattle.am_api_decisions.specs.declared.settling.Judgement.{Judgement}
use Rattle.am_api_decisions.specs.declared.timing.Timing.{Timing}

-- one is as itself
pub same_self : (stand : InstanceState) → HoldsSame stand stand
same_self stand = record { silences = λ id. refl; log = λ key. refl; config = refl }

-- one that is another is as it
pub same_is : (old new : InstanceState) → new ≡ old → HoldsSame old new
same_is old new is = subst (λ (stand : InstanceState). HoldsSame old stand) (sym is) (same_self old)

-- what is as one that is as a third is as that
pub same_on : (old mid new : InstanceState) → HoldsSame old mid → HoldsSame mid new → HoldsSame old new
same_on old mid new first then = record {
  silences = λ id. then.silences id ∙ first.silences id;
  log = λ key. then.log key ∙ first.log key;
  config = then.config ∙ first.config;
}

-- where nothing was made, nothing was delivered
nothing_here : (made : Made) → IsNothing made → made_here made ≡ []
nothing_here made nothing =
    ap (λ silences. map OfSilence silences ++ map OfEntry (listed made.log)) nothing.silences ∙ ap (λ entry. map OfEntry (listed entry)) nothing.log

-- a step that delivers nothing leaves all but the moment
passed : (now : ℕ) (old new : InstanceState) (ds : List Delivery) → ds ≡ [] → AreSilencesLeftBy (kept_silences old) (events_at to_silences now ds) (kept_silences new)
    → IsLogLeftBy (kept_log old) (events_at to_log now ds) (kept_log new) → new.config ≡ old.config → HoldsSame old new
passed now old new ds none silences log config =
    let of_silences = subst (λ (d : List Delivery). AreSilencesLeftBy (kept_silences old) (events_at to_silences now d) (kept_silences new)) none silences in
    let of_log = subst (λ (d : List Delivery). IsLogLeftBy (kept_log old) (events_at to_log now d) (kept_log new)) none log in
    record { silences = of_silences.map; log = of_log.map; config = config }

-- nothing of nothing
take_none : (n : ℕ) (none : List Delivery) → none ≡ [] → take n none ≡ []
take_none zero none is = refl
take_none (suc n) none is = rw is refl

-- to ask an alert
pub mutes_same : (now : ℕ) (labels : List Label) (old new : InstanceState) (step : Result Outcome StepError) → IsStep old (events.Mutes labels) now step new
    → HoldsSame old new
mutes_same now labels old new (Ok outcome) is = passed now old new (made_here outcome.made) (nothing_here outcome.made is.reply.1) is.silences is.log is.config
mutes_same now labels old new (Err (Memory taken)) is = passed now old new (take taken []) (take_none taken [] refl) is.silences is.log is.config
mutes_same now labels old new (Err (MomentBack last)) is = record { silences = is.silences.map; log = is.log.map; config = is.config }
mutes_same now labels old new (Err UnknownPeer) is = record { silences = is.silences.map; log = is.log.map; config = is.config }
mutes_same now labels old new (Err (Frame fault)) is = record { silences = is.silences.map; log = is.log.map; config = is.config }

-- to decide
pub decide_same : (now : ℕ) (group : Group) (counted : Counted) (old new : InstanceState) (step : Result Outcome StepError)
    → IsStep old (decide_event group counted) now step new → HoldsSame old new
decide_same now group counted old new (Ok outcome) is = passed now old new (made_here outcome.made) (nothing_here outcome.made is.reply.1) is.silences is.log is.config
decide_same now group counted old new (Err (Memory taken)) is = passed now old new (take taken []) (take_none taken [] refl) is.silences is.log is.config
decide_same now group counted old new (Err (MomentBack last)) is = record { silences = is.silences.map; log = is.log.map; config = is.config }
decide_same now group counted old new (Err UnknownPeer) is = record { silences = is.silences.map; log = is.log.map; config = is.config }
decide_same now group counted old new (Err (Frame fault)) is = record { silences = is.silences.map; log = is.log.map; config = is.config }

-- to ask one alert after the other
pub asked_same : (now : ℕ) (asked : List AskedAlert) (old new : InstanceState) → AreAsked now asked old new → HoldsSame old new
asked_same now [] old new are = same_is old new are
asked_same now (a ∷ asked) old new are =
    same_on old are.0 new (mutes_same now a.alert.labels old are.0 (Ok are.1.0) are.1.1) (asked_same now asked are.0 new are.2)

-- to stop at one
pub stop_same : (now : ℕ) (labels : List Label) (old new : InstanceState) (line : RefusalLine) → StopsAt now labels old line new → HoldsSame old new
stop_same now labels old new line (inl none) = same_is old new none.1
stop_same now labels old new line (inr made) = mutes_same now labels old new made.0 made.1

-- to answer a group
pub settled_same : (judgement : Judgement) (timing : Timing) (group : Group) (counted : Counted) (old new : InstanceState) (reply : ResponseBytes) → IsSettled judgement timing group counted old reply new
    → HoldsSame old new
settled_same judgement timing group counted old new reply = settled_by (has_none counted) where
  settled_by : (none : Bool) → IsSettledBy none judgement timing group counted old reply new → HoldsSame old new
  settled_by true is = same_is old new is.same
  settled_by false (inl none) = same_is old new none.1
  settled_by false (inr made) = decide_same timing.now group counted old new made.0 made.1
