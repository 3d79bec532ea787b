-- A member's stops and starts tell whether it runs, its events and starts its last moment.
use Rattle.std.proofs.Common.{◌≡◌, ℕ, Bool, true, false, cond, eqb, List, [], ◌∷◌, refl, sym, ap, ◌∙◌}
use Rattle.am_runs.specs.Steps.{RunStep, is_at}
use Rattle.am_runs.specs.Steps.RunStep.{Took, Ticked, Back, Refused, Saved, Stopped, Started}
use Rattle.am_runs.specs.Members.{Member, stepped, member_after, member_from, last_of}
use Rattle.am_runs.specs.Tests.{runs_after, runs_from, acted, last_from}
use Rattle.am_collect.specs.Events.MapEvent.{Collected, Passed}
use Rattle.am_runs.proofs.Pasts.{last-passes, last-one}

module _ {X : Type 0} where
  same_where : (b : Bool) (m n : Member X) → n.runs ≡ m.runs → (cond b n m).runs ≡ m.runs
  same_where true m n e = e
  same_where false m n e = refl

  value_where : (b : Bool) (m n : Member X) → (cond b n m).runs ≡ cond b n.runs m.runs
  value_where true m n = refl
  value_where false m n = refl

  runs_step : (q : ℕ) (m : Member X) (s : RunStep X) → (member_after q m s).runs ≡ runs_after q m.runs s
  runs_step q m (Took place now source versions frames) = same_where (eqb place q) m _ refl
  runs_step q m (Ticked place now) = same_where (eqb place q) m _ refl
  runs_step q m (Back place now) = same_where (eqb place q) m _ refl
  runs_step q m (Refused now) = refl
  runs_step q m (Saved place) = same_where (eqb place q) m _ refl
  runs_step q m (Stopped place) = value_where (eqb place q) m _
  runs_step q m (Started place now) = value_where (eqb place q) m _

  pub runs_told : (q : ℕ) (m : Member X) (steps : List (RunStep X)) → runs_from q m.runs steps ≡ (member_from q m steps).runs
  runs_told q m [] = refl
  runs_told q m (s ∷ steps) = ap (λ b. runs_from q b steps) (sym (runs_step q m s)) ∙ runs_told q (member_after q m s) steps

  acted_told : (m : Member X) (s : RunStep X) → last_of (stepped m s) ≡ acted (last_of m) s
  acted_told m (Took place now source versions frames) = last-passes m.past now versions
  acted_told m (Ticked place now) = last-one m.past Collected now
  acted_told m (Back place now) = refl
  acted_told m (Refused now) = refl
  acted_told m (Saved place) = refl
  acted_told m (Stopped place) = refl
  acted_told m (Started place now) = last-one m.saved Passed now

  last_where : (b : Bool) (m n : Member X) (last : ℕ) → last_of n ≡ last → last_of (cond b n m) ≡ cond b last (last_of m)
  last_where true m n last e = e
  last_where false m n last e = refl

  pub last_told : (q : ℕ) (m : Member X) (steps : List (RunStep X)) → last_from q (last_of m) steps ≡ last_of (member_from q m steps)
  last_told q m [] = refl
  last_told q m (s ∷ steps) = ap (λ t. last_from q t steps) (sym (last_where (is_at q s) m (stepped m s) (acted (last_of m) s) (acted_told m s))) ∙ last_told q (member_after q m s) steps
