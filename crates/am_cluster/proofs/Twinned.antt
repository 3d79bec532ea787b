-- Runs that are told of the same steps tell the same of each member.
use Rattle.std.proofs.Common.{◌≡◌, ℕ, ◌+◌, ◌<◌, ◌≤◌, suc, Bool, eqb, ltb, List, [], ◌∷◌, ◌++◌, length, refl, sym, ap, ◌∙◌, subst, length-append}
use Rattle.std.specs.declared.cmp.Ordering.{Ordering}
use Rattle.std.proofs.lemmas.List.{length-map}
use Rattle.am_version_order.specs.Versions.{Version}
use Rattle.am_runs.specs.Steps.{RunStep, is_at, flights_by, flights_of}
use Rattle.am_runs.specs.Steps.RunStep.{Took, Ticked, Back, Refused, Saved, Stopped, Started}
use Rattle.am_runs.specs.Members.{last_of, member_of}
use Rattle.am_runs.specs.Runs.{IsPossible}
use Rattle.am_runs.specs.Tests.{acted, last_after, last_from, runs_after, runs_from}
use Rattle.am_runs.proofs.Starts.{last_told, runs_told}
use Rattle.am_runs.proofs.Pasts.{flights_of-push}
use Rattle.am_cluster.specs.declared.journal.mark.Mark.{Mark}
use Rattle.am_cluster.specs.declared.journal.mark.Mark.TheVariants as marks
use Rattle.am_cluster.specs.Marks.{step_of_mark}
use Rattle.am_cluster.specs.Twins.{AreTwins, IsTwin}

module _ {X Y : Type 0} where
  runs_alike : (q : ℕ) (runs : Bool) (step : RunStep X) (twin : RunStep Y) → IsTwin step twin → runs_after q runs step ≡ runs_after q runs twin
  runs_alike q runs (Took place now source versions frames) (Took other then origin others sent) is = refl
  runs_alike q runs (Ticked place now) (Ticked other then) is = refl
  runs_alike q runs (Back place now) (Back other then) is = refl
  runs_alike q runs (Refused now) (Refused then) is = refl
  runs_alike q runs (Saved place) (Saved other) is = refl
  runs_alike q runs (Stopped place) (Stopped other) is = ap (λ p. let s : RunStep X = Stopped p in runs_after q runs s) is
  runs_alike q runs (Started place now) (Started other then) is = ap (λ p. let s : RunStep X = Started p now in runs_after q runs s) is.0
  runs_alike q runs _ _ is = absurd is

  at_alike : (q : ℕ) (step : RunStep X) (twin : RunStep Y) → IsTwin step twin → is_at q step ≡ is_at q twin
  at_alike q (Took place now source versions frames) (Took other then origin others sent) is = ap (λ p. eqb p q) is.0
  at_alike q (Ticked place now) (Ticked other then) is = ap (λ p. eqb p q) is.0
  at_alike q (Back place now) (Back other then) is = ap (λ p. eqb p q) is.0
  at_alike q (Refused now) (Refused then) is = refl
  at_alike q (Saved place) (Saved other) is = ap (λ p. eqb p q) is
  at_alike q (Stopped place) (Stopped other) is = ap (λ p. eqb p q) is
  at_alike q (Started place now) (Started other then) is = ap (λ p. eqb p q) is.0
  at_alike q _ _ is = absurd is

  acted_alike : (last : ℕ) (step : RunStep X) (twin : RunStep Y) → IsTwin step twin → acted last step ≡ acted last twin
  acted_alike last (Took place now source versions frames) (Took other then origin others sent) is = is.1
  acted_alike last (Ticked place now) (Ticked other then) is = is.1
  acted_alike last (Back place now) (Back other then) is = refl
  acted_alike last (Refused now) (Refused then) is = refl
  acted_alike last (Saved place) (Saved other) is = refl
  acted_alike last (Stopped place) (Stopped other) is = refl
  acted_alike last (Started place now) (Started other then) is = is.1
  acted_alike last _ _ is = absurd is

  last_alike : (q last : ℕ) (step : RunStep X) (twin : RunStep Y) → IsTwin step twin → last_after q last step ≡ last_after q last twin
  last_alike q last step twin is = rw (at_alike q step twin is, acted_alike last step twin is) refl

  flights_alike : (step : RunStep X) (twin : RunStep Y) → IsTwin step twin → length (flights_by step) ≡ length (flights_by twin)
  flights_alike (Took place now source versions frames) (Took other then origin others sent) is = length-map frames _ ∙ (is.3 ∙ sym (length-map sent _))
  flights_alike (Ticked place now) (Ticked other then) is = refl
  flights_alike (Back place now) (Back other then) is = refl
  flights_alike (Refused now) (Refused then) is = refl
  flights_alike (Saved place) (Saved other) is = refl
  flights_alike (Stopped place) (Stopped other) is = refl
  flights_alike (Started place now) (Started other then) is = refl
  flights_alike _ _ is = absurd is

  all_runs : (q : ℕ) (runs : Bool) (steps : List (RunStep X)) (twins : List (RunStep Y)) → AreTwins steps twins → runs_from q runs steps ≡ runs_from q runs twins
  all_runs q runs [] [] are = refl
  all_runs q runs (step ∷ steps) (twin ∷ twins) are = ap (λ b. runs_from q b steps) (runs_alike q runs step twin are.0) ∙ all_runs q (runs_after q runs twin) steps twins are.1
  all_runs q runs _ _ are = absurd are

  all_last : (q last : ℕ) (steps : List (RunStep X)) (twins : List (RunStep Y)) → AreTwins steps twins → last_from q last steps ≡ last_from q last twins
  all_last q last [] [] are = refl
  all_last q last (step ∷ steps) (twin ∷ twins) are = ap (λ n. last_from q n steps) (last_alike q last step twin are.0) ∙ all_last q (last_after q last twin) steps twins are.1
  all_last q last _ _ are = absurd are

  -- as many frames were sent
  pub twin_flights : (steps : List (RunStep X)) (twins : List (RunStep Y)) → AreTwins steps twins → length (flights_of steps) ≡ length (flights_of twins)
  twin_flights [] [] are = refl
  twin_flights (step ∷ steps) (twin ∷ twins) are =
      let one = flights_alike step twin are.0 in
      let more = twin_flights steps twins are.1 in
      length-append (flights_by step) (flights_of steps) ∙ (ap (λ n. n + length (flights_of steps)) one ∙ (ap (λ n. length (flights_by twin) + n) more ∙ sym (length-append (flights_by twin) (flights_of twins))))
  twin_flights _ _ are = absurd are

  -- a member runs in one where it runs in the other
  pub twin_runs : (members q : ℕ) (steps : List (RunStep X)) (twins : List (RunStep Y)) → AreTwins steps twins → (member_of members q steps).runs ≡ (member_of members q twins).runs
  twin_runs members q steps twins are =
      sym (runs_told q (record { past = []; saved = []; runs = ltb q members }) steps) ∙ (all_runs q (ltb q members) steps twins are ∙ runs_told q (record { past = []; saved = []; runs = ltb q members }) twins)

  -- and its last moment is the same
  pub twin_last : (members q : ℕ) (steps : List (RunStep X)) (twins : List (RunStep Y)) → AreTwins steps twins → last_of (member_of members q steps) ≡ last_of (member_of members q twins)
  twin_last members q steps twins are =
      sym (last_told q (record { past = []; saved = []; runs = ltb q members }) steps) ∙ (all_last q 0 steps twins are ∙ last_told q (record { past = []; saved = []; runs = ltb q members }) twins)

  -- as many steps
  pub twin_length : (steps : List (RunStep X)) (twins : List (RunStep Y)) → AreTwins steps twins → length steps ≡ length twins
  twin_length [] [] are = refl
  twin_length (step ∷ steps) (twin ∷ twins) are = ap (λ n. suc n) (twin_length steps twins are.1)
  twin_length _ _ are = absurd are

  -- they go on by one step
  pub twin_push : (steps : List (RunStep X)) (twins : List (RunStep Y)) (step : RunStep X) (twin : RunStep Y) → AreTwins steps twins → IsTwin step twin → AreTwins (steps ++ step ∷ []) (twins ++ twin ∷ [])
  twin_push [] [] step twin are is = (is, tt)
  twin_push (first ∷ steps) (other ∷ twins) step twin are is = (are.0, twin_push steps twins step twin are.1 is)
  twin_push _ _ step twin are is = absurd are

-- a step without versions is its own twin
pub mark_twin : (X Y : Type 0) (mark : Mark) → IsTwin (step_of_mark {X = X} mark) (step_of_mark {X = Y} mark)
mark_twin X Y (marks.Ticked place now) = (refl, refl)
mark_twin X Y (marks.Back place now) = (refl, refl)
mark_twin X Y (marks.Refused now) = refl
mark_twin X Y (marks.Saved place) = refl
mark_twin X Y (marks.Stopped place) = refl
mark_twin X Y (marks.Started place now) = (refl, refl)

module _ {K X L Y : Type 0} (seen : X → Version K) (cmp : K → K → Ordering) (looked : Y → Version L) (order : L → L → Ordering) where
  -- and possible in one run where it is in the other
  pub mark_possible : (members : ℕ) (steps : List (RunStep X)) (twins : List (RunStep Y)) (mark : Mark) → AreTwins steps twins → IsPossible seen cmp members steps (step_of_mark mark) → IsPossible looked order members twins (step_of_mark mark)
  mark_possible members steps twins (marks.Ticked place now) are can = record {
    runs = sym (twin_runs members place steps twins are) ∙ can.runs;
    forward = subst (λ n. n ≤ now) (twin_last members place steps twins are) can.forward;
  }
  mark_possible members steps twins (marks.Back place now) are can = subst (λ n. now < n) (twin_last members place steps twins are) can
  mark_possible members steps twins (marks.Refused now) are can = tt
  mark_possible members steps twins (marks.Saved place) are can = sym (twin_runs members place steps twins are) ∙ can
  mark_possible members steps twins (marks.Stopped place) are can = sym (twin_runs members place steps twins are) ∙ can
  mark_possible members steps twins (marks.Started place now) are can = record {
    member = can.member;
    stopped = sym (twin_runs members place steps twins are) ∙ can.stopped;
    forward = subst (λ n. n ≤ now) (twin_last members place steps twins are) can.forward;
  }

-- with one step more there are as many frames more
pub flights_pushed : {X : Type 0} (steps : List (RunStep X)) (step : RunStep X) → length (flights_of (steps ++ step ∷ [])) ≡ length (flights_of steps) + length (flights_by step)
flights_pushed steps step = ap length (flights_of-push steps step) ∙ length-append (flights_of steps) (flights_by step)
