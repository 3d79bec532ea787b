-- Runs as contracts see them.
use Rattle.std.specs.Prelude.{ℕ, List, map}
use Rattle.am_runs.specs.declared.step.RunStep.{RunStep as Kept}
use Rattle.am_runs.specs.declared.step.RunStep.TheVariants.{Took as KeptTook, Ticked as KeptTicked, Back as KeptBack}
use Rattle.am_runs.specs.declared.step.RunStep.TheVariants.{Refused as KeptRefused, Saved as KeptSaved}
use Rattle.am_runs.specs.declared.step.RunStep.TheVariants.{Stopped as KeptStopped, Started as KeptStarted}
use Rattle.std.specs.Option.{option_copied}
use Rattle.am_runs.specs.declared.calm.LastCollection.{LastCollection as KeptLasts}
use Rattle.am_runs.specs.declared.calm.MaxTaken.{MaxTaken as KeptTops}
use Rattle.am_runs.specs.declared.timely.Watch.{Watch}
use Rattle.am_runs.specs.Tests.{LastCollection, MaxTaken, Watched}
use Rattle.am_runs.specs.Steps.{RunStep}
use Rattle.am_runs.specs.Steps.RunStep.{Took, Ticked, Back, Refused, Saved, Stopped, Started}

-- a step, without the places of its versions in memory
abbrev pub step_of : {X : Type 0} → Kept X → RunStep X
step_of (KeptTook place now source versions frames) = Took place now source versions.items (map (λ frame. frame.items) frames.items)
step_of (KeptTicked place now) = Ticked place now
step_of (KeptBack place now) = Back place now
step_of (KeptRefused now) = Refused now
step_of (KeptSaved place) = Saved place
step_of (KeptStopped place) = Stopped place
step_of (KeptStarted place now) = Started place now

-- the number of members, the steps so far, and the number of further steps for which there is room
pub record Record (X : Type 0) : Type 0 where
  pub members : ℕ
  pub steps : List (RunStep X)
  pub room : ℕ

-- the last collections, for the tests of calm
abbrev pub lasts_seen : KeptLasts → LastCollection
lasts_seen l = record { last = l.last; saved = l.saved }

-- the greatest versions of one key, for the tests of calm
abbrev pub tops_seen : {X : Type 0} → KeptTops X → MaxTaken X
tops_seen t = record { top = option_copied t.top; saved = option_copied t.saved }

-- the state of the test of a version's spread
abbrev pub watch_seen : Watch → Watched
watch_seen w = record { runs = w.runs; has = w.has; saved = w.saved }
