-- The steps of the frames of a peer, and what those send.
use Rattle.std.specs.Prelude.{◌≡◌, ℕ, Bool, true, false, ◌||◌, List, [], ◌∷◌, ◌++◌, Some, Ok, Err, slice_get}
use Rattle.am_gossip.specs.declared.frame.Frame.{Frame}
use Rattle.am_instance.specs.declared.event.Event.TheVariants as events
use Rattle.am_gossip.specs.declared.refusals.StepError.{StepError}
use Rattle.am_instance.specs.declared.reply.Outcome.{Outcome}
use Rattle.am_instance.specs.Configs.{Settings, is_peer}
use Rattle.am_instance.specs.InstanceStates.{InstanceState}
use Rattle.am_instance.specs.Sendings.{Gathers, Sent, nothing_sent, sent_by}
use Rattle.am_instance.specs.Steps.{collects}
use Rattle.am_instance.specs.OneStep.{IsStep}
use Rattle.am_member.specs.declared.session_answer.StepEffects.{StepEffects}

-- the effects of no step
abbrev pub no_effects : StepEffects
no_effects = record { outbox = nothing_sent; ticked = false }

-- the progress of steps: the instance as they left it, and their effects besides
pub record SoFar : Type 0 where
  pub instance : InstanceState
  pub effects : StepEffects

abbrev pub so_far : InstanceState → StepEffects → SoFar
so_far instance effects = record { instance = instance; effects = effects }

-- the effects with those of one more step added
pub record Adds (more : Sent) (ticks : Bool) (before after : StepEffects) : Type 0 where
  -- the frames that the step sends
  pub sent : Gathers more before.outbox after.outbox
  -- true if the step was a Tick
  pub ticked : after.ticked ≡ (before.ticked || ticks)

-- the step of a frame that came from a peer is made
pub record MakesStep (sender now : ℕ) (frame : Frame) (before after : SoFar) : Type 0 where
  pub outcome : Outcome
  pub step : IsStep before.instance (events.Frame sender frame) now (Ok outcome) after.instance
  pub adds : Adds (sent_by outcome) (collects (events.Frame sender frame)) before.effects after.effects

-- the step of each frame is made, one after the other
abbrev pub MakesAll : ℕ → ℕ → List Frame → SoFar → SoFar → Type 0
MakesAll sender now [] before after = after ≡ before
MakesAll sender now (frame ∷ frames) before after =
    (mid : SoFar) × MakesStep sender now frame before mid × MakesAll sender now frames mid after

-- the steps are made up to the first one that is refused
pub record StopsAt (sender now : ℕ) (frames : List Frame) (before after : SoFar) (error : StepError) : Type 0 where
  -- first come frames whose steps are made
  pub made : List Frame
  pub mid : InstanceState
  pub made_all : MakesAll sender now made before (so_far mid after.effects)
  -- behind them comes one whose step is refused
  pub frame : Frame
  pub refused : IsStep mid (events.Frame sender frame) now (Err error) after.instance
  -- others come behind that one
  pub others : List Frame
  pub frames_are : frames ≡ made ++ frame ∷ others

-- ---- a peer

-- the place is that of a peer of this name
pub record IsPeerOf (config : Settings) (name : List ℕ) (place : ℕ) : Type 0 where
  pub named : slice_get config.members place ≡ Some name
  pub peer : is_peer config place ≡ true

-- the place is that of the one peer of this name
pub record IsOnlyPeerOf (config : Settings) (name : List ℕ) (place : ℕ) : Type 0 where
  pub found : IsPeerOf config name place
  pub alone : (other : ℕ) → IsPeerOf config name other → other ≡ place
