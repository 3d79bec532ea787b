-- Members show the same in the terms of either run.
use Rattle.std.proofs.Common.{◌≡◌, ◌∙◌, ◌+◌, ◌<◌, ◌≤◌, ◌++◌, ◌∷◌, ℕ, List, ap, refl, sym, subst, length}
use Rattle.std.specs.Prelude.{All, Some, true}
use Rattle.am_merge.specs.Maps.{if_live}
use Rattle.am_merge.specs.Views.{IsViewAt}
use Rattle.am_instance.specs.InstanceStates.{InstanceState}
use Rattle.am_runs.specs.Members.{last_of, map_of, member_of, set_of}
use Rattle.am_runs.specs.Runs.{IsCalmAt, IsRun}
use Rattle.am_runs.specs.Steps.{RunStep, delivered_in, moment}
use Rattle.am_runs.specs.Timely.{IsTimely}
use Rattle.am_cluster.specs.BothRuns.{RunOf, log_run, silence_run}
use Rattle.am_cluster.specs.Reports.{AreRuns, AreTimely, IsCalmInBoth}
use Rattle.am_cluster.specs.Ties.{IsMember, IsTied, IsTiedIn, IsWorld}
use Rattle.am_cluster.specs.Worlds.{Replica, World}
use Rattle.am_cluster.specs.Replicas.{GoesOnAt, GoesOnIn, taken_in}
use Rattle.am_cluster.specs.Shown.{AgreeOnWhatIsOld, ShowTheBareSet}

-- what is told of both runs is told of this one
pub record IsOneOfBoth {K X : Type 0} (run : RunOf K X) : Type 0 where
  pub last : (stand : InstanceState) → (run.state.kept stand).last ≡ stand.last
  pub tied : (world : World) (place : ℕ) (replica : Replica) → IsMember world place replica → IsTiedIn run world place replica
  pub calm : (world : World) (place : ℕ) → IsCalmInBoth (length world.replicas) place world.silences world.log → IsCalmAt run.state.seen (length world.replicas) place (run.steps world)
  pub is_run : (world : World) → AreRuns (length world.replicas) world.silences world.log → IsRun run.state.seen run.state.cmp (length world.replicas) (run.steps world)
  pub timely : (spread flight : ℕ) (world : World) → AreTimely spread flight (length world.replicas) world.silences world.log → IsTimely run.state.seen spread flight (length world.replicas) (run.steps world)
  pub goes : (earlier later : World) (now : ℕ) → GoesOnAt earlier later now → GoesOnIn run earlier later now

pub of_silences : IsOneOfBoth silence_run
of_silences = record {
  last = λ stand. refl;
  tied = λ world place replica is. is.silences;
  calm = λ world place both. both.0;
  is_run = λ world both. both.0;
  timely = λ spread flight world both. both.0;
  goes = λ earlier later now goes. goes.silences;
}

pub of_log : IsOneOfBoth log_run
of_log = record {
  last = λ stand. refl;
  tied = λ world place replica is. is.log;
  calm = λ world place both. both.1;
  is_run = λ world both. both.1;
  timely = λ spread flight world both. both.1;
  goes = λ earlier later now goes. goes.log;
}

module _ {K X : Type 0} {run : RunOf K X} (one : IsOneOfBoth run) where
  -- what calm members of a run show of their maps
  abbrev pub CalmOnesShow : Type 0
  CalmOnesShow =
      (members place : ℕ) (steps : List (RunStep X)) (now : ℕ) (key : K) → IsCalmAt run.state.seen members place steps → last_of (member_of members place steps) ≤ now →
      IsViewAt run.state.seen (set_of (member_of members place steps)) now key (if_live run.state.seen now (map_of run.state.seen run.state.cmp (member_of members place steps).past key))

  pub show_the_bare_set : CalmOnesShow → (world : World) → IsWorld world → ShowTheBareSet run world
  show_the_bare_set law world is = λ place now key replica found by.
      let tied = one.tied world place replica (is.members place replica found) in
      subst (λ o. IsViewAt run.state.seen (taken_in run world place) now key (if_live run.state.seen now o)) (sym (tied.held.map key))
      (law (length world.replicas) place (run.steps world) now key (one.calm world place by.calm) (subst (λ last. last ≤ now) (sym (one.last replica.stand) ∙ tied.held.last) by.past))

  -- what members that run show alike of their maps
  abbrev pub ViewsAgree : (X → Type 0) → Type 0
  ViewsAgree is_value =
      (members spread flight now : ℕ) (before rest : List (RunStep X)) (step : RunStep X) (key : K) → 0 < spread → IsRun run.state.seen run.state.cmp members (before ++ step ∷ rest) →
      IsTimely run.state.seen spread flight members (before ++ step ∷ rest) → All is_value (delivered_in (before ++ step ∷ rest)) → moment step ≡ Some now →
      All (λ v. (run.state.seen v).key ≡ key → (run.state.seen v).updated + spread ≤ now) (delivered_in (before ++ step ∷ rest)) → (place other : ℕ) →
      (member_of members place before).runs ≡ true → (member_of members other before).runs ≡ true →
      if_live run.state.seen now (map_of run.state.seen run.state.cmp (member_of members place before).past key)
      ≡ if_live run.state.seen now (map_of run.state.seen run.state.cmp (member_of members other before).past key)

  -- a member of an earlier cluster, counted as one of the later
  tied_later : (earlier later : World) (place : ℕ) (replica : Replica) → length later.replicas ≡ length earlier.replicas → IsMember earlier place replica →
      IsTied run.state (member_of (length later.replicas) place (run.steps earlier)) replica.runs (run.state.kept replica.stand) (run.saved replica)
  tied_later earlier later place replica same is =
      subst (λ n. IsTied run.state (member_of n place (run.steps earlier)) replica.runs (run.state.kept replica.stand) (run.saved replica)) (sym same) (one.tied earlier place replica is)

  pub agree_on_what_is_old : (is_value : X → Type 0) → ViewsAgree is_value → (earlier later : World) → IsWorld earlier → AreRuns (length later.replicas) later.silences later.log →
      All is_value (delivered_in (run.steps later)) → AgreeOnWhatIsOld run earlier later
  agree_on_what_is_old is_value law earlier later is runs values = λ spread flight now positive goes timely key old place other first found second there running running_too.
      let members = length later.replicas in
      let on = one.goes earlier later now goes in
      let tied = tied_later earlier later place first goes.members (is.members place first found) in
      let tied_too = tied_later earlier later other second goes.members (is.members other second there) in
      ap (λ o. if_live run.state.seen now o) (tied.held.map key)
      ∙ (law members spread flight now (run.steps earlier) on.rest on.step key positive
      (subst (IsRun run.state.seen run.state.cmp members) on.parts (one.is_run later runs))
      (subst (IsTimely run.state.seen spread flight members) on.parts (one.timely spread flight later timely))
      (subst (λ steps. All is_value (delivered_in steps)) on.parts values) on.begins
      (subst (λ steps. All (λ v. (run.state.seen v).key ≡ key → (run.state.seen v).updated + spread ≤ now) (delivered_in steps)) on.parts old)
      place other (tied.runs ∙ running) (tied_too.runs ∙ running_too)
      ∙ sym (ap (λ o. if_live run.state.seen now o) (tied_too.held.map key)))
