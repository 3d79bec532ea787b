-- The versions that members show of one of the states.
use Rattle.std.specs.Prelude.{◌≡◌, ◌+◌, ◌<◌, ◌≤◌, ℕ, Option, All, true, length}
use Rattle.am_merge.specs.Maps.{at, if_live}
use Rattle.am_merge.specs.Views.{IsViewAt}
use Rattle.am_runs.specs.Steps.{delivered_in}
use Rattle.am_cluster.specs.BothRuns.{RunOf}
use Rattle.am_cluster.specs.Lives.{OfMember}
use Rattle.am_cluster.specs.Reports.{AreTimely}
use Rattle.am_cluster.specs.Worlds.{Replica, World}
use Rattle.am_cluster.specs.Replicas.{GoesOnAt, IsCalmBy, taken_in}

module _ {K X : Type 0} (run : RunOf K X) where
  -- the version that a member holds of a key, if it is in view
  abbrev pub shown_by : Replica → ℕ → K → Option X
  shown_by replica now key = if_live run.state.seen now (at run.state.seen run.state.cmp (run.state.kept replica.stand).held key)

  -- a member that was calm shows what the bare set of all versions shows that were delivered to it
  abbrev pub ShowTheBareSet : World → Type 0
  ShowTheBareSet world = (place now : ℕ) (key : K) → OfMember world place (λ replica. IsCalmBy world place replica now →
      IsViewAt run.state.seen (taken_in run world place) now key (shown_by replica now key))

  -- members that run show the same of a key if every version of it in the later run is a spread old
  abbrev pub AgreeAt : World → World → ℕ → ℕ → Type 0
  AgreeAt earlier later spread now = (key : K) →
      All (λ v. (run.state.seen v).key ≡ key → (run.state.seen v).updated + spread ≤ now) (delivered_in (run.steps later)) →
      (place other : ℕ) → OfMember earlier place (λ one. OfMember earlier other (λ two. one.runs ≡ true → two.runs ≡ true →
      shown_by one now key ≡ shown_by two now key))

  -- members that run agree like that when a step begins in a timely run
  abbrev pub AgreeOnWhatIsOld : World → World → Type 0
  AgreeOnWhatIsOld earlier later = (spread flight now : ℕ) → 0 < spread → GoesOnAt earlier later now →
      AreTimely spread flight (length later.replicas) later.silences later.log → AgreeAt earlier later spread now
