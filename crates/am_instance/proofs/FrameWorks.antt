-- The work of a frame, put together of its parts.
use Rattle.std.proofs.Common.{◌≡◌, ℕ, List, ◌++◌, false, take, ap, refl, sym, subst, ◌∙◌, append-nil, inl, inr, arith}
use Rattle.std.specs.Prelude.{None, Ok, Err, option_map}
use Rattle.am_gossip.specs.declared.frame.Frame.{Frame as GossipFrame}
use Rattle.am_gossip.specs.declared.frame.Part.{Part}
use Rattle.am_gossip.specs.Answers.{frame_fault}
use Rattle.am_instance.specs.declared.event.Event.TheVariants as events
use Rattle.am_gossip.specs.declared.refusals.StepError.{StepError}
use Rattle.am_gossip.specs.declared.refusals.StepError.TheVariants.{MomentBack, UnknownPeer, Frame, Memory}
use Rattle.am_instance.specs.declared.reply.Reply.TheVariants as replies
use Rattle.am_instance.specs.declared.reply.Outcome.{Outcome}
use Rattle.am_instance.specs.Configs.{peers_but}
use Rattle.am_instance.specs.Deliveries.{before_fault, first_fault, rows_in, parts_of}
use Rattle.am_instance.specs.InstanceStates.{InstanceState, silence_at, entry_at}
use Rattle.am_instance.specs.Changes.{changed_of}
use Rattle.am_instance.specs.Sendings.{Sent, Sends, deltas_to, nothing_sent, sent_by}
use Rattle.am_instance.specs.Replies.{IsNothing}
use Rattle.am_instance.specs.Steps.{IsWork, IsArrival, IsJudgement, Delivers, StopsDelivering, collects, last_wanted}
use Rattle.am_instance.proofs.Arrivals.{delivers_none}
use Rattle.am_instance.proofs.Sent.{sends_append}
use Rattle.am_instance.proofs.Works.{answered, made_nothing}

-- nothing is taken where a row is at fault, or memory runs out before
pub judged_arrival : (old : InstanceState) (sender : ℕ) (parts : List Part) (now : ℕ) (e : StepError) → IsJudgement (first_fault (rows_in old.config.unknown parts)) e → IsArrival old sender parts now (Err e) old
judged_arrival old sender parts now (Memory taken) none =
    (inl none, subst (λ (n : ℕ). Delivers now (take n (before_fault (rows_in old.config.unknown parts))) old old) (sym none) (delivers_none now old))
judged_arrival old sender parts now (Frame fault) is = (is, refl)
judged_arrival old sender parts now (MomentBack last) none = none
judged_arrival old sender parts now UnknownPeer none = none

-- memory ran out in the midst
pub stopped_arrival : (old new : InstanceState) (sender : ℕ) (parts : List Part) (now taken : ℕ) → first_fault (rows_in old.config.unknown parts) ≡ None →
    StopsDelivering now (before_fault (rows_in old.config.unknown parts)) old new 0 taken → IsArrival old sender parts now (Err (Memory taken)) new
stopped_arrival old new sender parts now taken sound stop =
    let within = stop.within in
    let counted = stop.counted in
    let same : stop.number ≡ taken = omega (arith, counted) in
    (inr (ap (option_map frame_fault) sound, omega (arith, within, counted)), subst (λ (n : ℕ). Delivers now (take n (before_fault (rows_in old.config.unknown parts))) old new) same stop.delivered)

-- a frame whose rows were refused, or that memory stopped
pub refused_frame : (old new : InstanceState) (sender : ℕ) (frame : GossipFrame) (now : ℕ) (e : StepError) → IsArrival old sender (parts_of frame) now (Err e) new → IsWork old (events.Frame sender frame) now (Err e) new
refused_frame old new sender frame now (Memory taken) stop = record {
  config = stop.1.config;
  last = stop.1.last;
  silences = stop.1.silences;
  log = stop.1.log;
  answer = (stop.0, refl);
}
refused_frame old new sender frame now (Frame fault) is = subst (λ stand. IsWork old (events.Frame sender frame) now (Err (Frame fault)) stand) (sym is.1) (record {
  config = refl;
  last = refl;
  silences = refl;
  log = refl;
  answer = (is.0, refl);
})
refused_frame old new sender frame now (MomentBack last) none = absurd none
refused_frame old new sender frame now UnknownPeer none = absurd none

-- a frame whose versions were taken, and after it what is sent last
pub taken_frame : (old new : InstanceState) (sender : ℕ) (frame : GossipFrame) (now : ℕ) (outcome : Outcome) (sent : Sent) → collects (events.Frame sender frame) ≡ false →
    IsArrival old sender (parts_of frame) now (Ok sent) new → Sends (last_wanted (events.Frame sender frame) new) sent (sent_by outcome) →
    outcome.reply ≡ replies.Nothing → IsNothing outcome.made → IsWork old (events.Frame sender frame) now (Ok outcome) new
taken_frame old new sender frame now outcome sent stays arrival last reply nothing =
    let ds = before_fault (rows_in old.config.unknown (parts_of frame)) in
    answered old new (events.Frame sender frame) now outcome ds stays
    (ap (λ xs. ds ++ xs) (made_nothing outcome.made nothing) ∙ append-nil ds) arrival.1
    (ap (option_map frame_fault) arrival.0)
    (sends_append (deltas_to (peers_but old.config sender) (changed_of now (silence_at old.silences) (entry_at old.log) ds)) (last_wanted (events.Frame sender frame) new) nothing_sent sent (sent_by outcome) arrival.2 last)
    (reply, nothing)
