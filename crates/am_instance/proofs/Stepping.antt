-- A step, put together of its admission and its work.
use Rattle.std.proofs.Common.{◌≡◌, ℕ, List, ◌++◌, true, false, refl, sym, subst}
use Rattle.std.specs.Prelude.{Result, Ok, Err}
use Rattle.am_gossip.specs.declared.frame.Frame.{Frame as GossipFrame}
use Rattle.am_gossip.specs.declared.frame.Frame.TheVariants as frames
use Rattle.am_instance.specs.declared.event.Event.{Event}
use Rattle.am_instance.specs.declared.event.Event.TheVariants as events
use Rattle.am_gossip.specs.declared.refusals.StepError.{StepError}
use Rattle.am_gossip.specs.declared.refusals.StepError.TheVariants.{MomentBack, UnknownPeer, Frame, Memory}
use Rattle.am_instance.specs.declared.reply.Outcome.{Outcome}
use Rattle.am_instance.specs.Configs.{peers_but}
use Rattle.am_instance.specs.InstanceStates.{InstanceState, silence_at, entry_at}
use Rattle.am_instance.specs.Changes.{changed_of}
use Rattle.am_instance.specs.Sendings.{Sends, deltas_to, nothing_sent, sent_by}
use Rattle.am_instance.specs.Steps.{IsAdmitted, IsUnadmitted, IsWork, counts, delivers, last_wanted, origin}
use Rattle.am_instance.specs.OneStep.{IsStep}
use Rattle.am_instance.specs.Laws.{HasMaps}
use Rattle.am_instance.proofs.Passing.{silences_left, log_left}
use Rattle.am_instance.proofs.Whole.{step_whole}

-- it was not admitted
pub unadmitted_step : (stand : InstanceState) (event : Event) (now : ℕ) (e : StepError) → IsUnadmitted stand event now e → IsStep stand event now (Err e) stand
unadmitted_step stand event now (MomentBack last) why = record {
  accepted = tt;
  refused = why;
  unchanged = λ _. refl;
  config = refl;
  silences = record { forward = tt; map = λ key. refl; last = refl };
  log = record { forward = tt; map = λ key. refl; last = refl };
  kept = λ whole. whole;
  swept = tt;
  sent = tt;
  reply = tt;
}
unadmitted_step stand event now UnknownPeer why = record {
  accepted = tt;
  refused = why;
  unchanged = λ _. refl;
  config = refl;
  silences = record { forward = tt; map = λ key. refl; last = refl };
  log = record { forward = tt; map = λ key. refl; last = refl };
  kept = λ whole. whole;
  swept = tt;
  sent = tt;
  reply = tt;
}
unadmitted_step stand event now (Frame fault) why = absurd why
unadmitted_step stand event now (Memory taken) why = absurd why

-- it was admitted, and is refused for a fault
pub refused_step : (old new : InstanceState) (event : Event) (now : ℕ) (result : Result Outcome StepError) → IsAdmitted old event now → IsWork old event now result new → counts result ≡ false →
    IsStep old event now result new
refused_step old new event now (Ok outcome) admitted work stays = absurd cc
refused_step old new event now (Err (Memory taken)) admitted work stays = absurd cc
refused_step old new event now (Err (MomentBack last)) admitted work stays = absurd work.answer
refused_step old new event now (Err UnknownPeer) admitted work stays = absurd work.answer
refused_step old new event now (Err (Frame fault)) admitted work stays = subst (λ (s : InstanceState). IsStep old event now (Err (Frame fault)) s) (sym work.answer.1) (record {
  accepted = tt;
  refused = (admitted.forward, admitted.known, work.answer.0);
  unchanged = λ _. refl;
  config = refl;
  silences = record { forward = tt; map = λ key. refl; last = refl };
  log = record { forward = tt; map = λ key. refl; last = refl };
  kept = λ whole. whole;
  swept = tt;
  sent = tt;
  reply = tt;
})

-- what is sent last doesn't look at the moment
last_same : (event : Event) (stand : InstanceState) (now : ℕ) → last_wanted event stand ≡ last_wanted event (record stand { last = now })
last_same (events.Request request) stand now = refl
last_same (events.Frame sender (frames.Delta part)) stand now = refl
last_same (events.Frame sender (frames.Push parts)) stand now = refl
last_same (events.Frame sender (frames.Pull parts)) stand now = refl
last_same (events.Frame sender frames.Tick) stand now = refl
last_same (events.Notified group_key receiver firing resolved repeat) stand now = refl
last_same (events.Decide group_key receiver firing resolved repeat send_resolved) stand now = refl
last_same (events.Mutes labels) stand now = refl
last_same events.Show stand now = refl
last_same events.Tick stand now = refl
last_same (events.PullFrom place) stand now = refl

-- it was admitted, and its moment counts
pub counted_step : (old mid : InstanceState) (event : Event) (now : ℕ) (result : Result Outcome StepError) → IsAdmitted old event now → IsWork old event now result mid → counts result ≡ true → HasMaps mid →
    IsStep old event now result (record mid { last = now })
counted_step old mid event now (Ok outcome) admitted work counted maps = record {
  accepted = record { forward = admitted.forward; known = admitted.known; sound = work.answer.sound };
  refused = tt;
  unchanged = λ none. absurd none;
  config = work.config;
  silences = silences_left old mid event now (Ok outcome) admitted.forward work counted _ refl refl;
  log = log_left old mid event now (Ok outcome) admitted.forward work counted _ refl refl;
  kept =
      step_whole old (record mid { last = now }) event now (Ok outcome) work.config
      (silences_left old mid event now (Ok outcome) admitted.forward work counted _ refl refl) (log_left old mid event now (Ok outcome) admitted.forward work counted _ refl refl)
      work.answer.reply (record { silences = maps.silences; log = maps.log });
  swept = λ collecting. let swept = work.answer.swept collecting in record { silences = swept.silences; log = swept.log };
  sent = subst
      (λ (last : List (ℕ × GossipFrame)). Sends (deltas_to (peers_but old.config (origin old.config event))
      (changed_of now (silence_at old.silences) (entry_at old.log) (delivers old.config.unknown event outcome.made)) ++ last) nothing_sent (sent_by outcome))
      (last_same event mid now) work.answer.sent;
  reply = work.answer.reply;
}
counted_step old mid event now (Err (Memory taken)) admitted work counted maps = record {
  accepted = tt;
  refused = (admitted.forward, admitted.known, work.answer.0, work.answer.1);
  unchanged = λ none. absurd none;
  config = work.config;
  silences = silences_left old mid event now (Err (Memory taken)) admitted.forward work counted _ refl refl;
  log = log_left old mid event now (Err (Memory taken)) admitted.forward work counted _ refl refl;
  kept =
      step_whole old (record mid { last = now }) event now (Err (Memory taken)) work.config
      (silences_left old mid event now (Err (Memory taken)) admitted.forward work counted _ refl refl) (log_left old mid event now (Err (Memory taken)) admitted.forward work counted _ refl refl)
      tt (record { silences = maps.silences; log = maps.log });
  swept = tt;
  sent = tt;
  reply = tt;
}
counted_step old mid event now (Err (MomentBack last)) admitted work counted maps = absurd work.answer
counted_step old mid event now (Err UnknownPeer) admitted work counted maps = absurd work.answer
counted_step old mid event now (Err (Frame fault)) admitted work counted maps = absurd cc
