-- The tests of calm answer as the definition says.
use Rattle.std.proofs.Common.{◌≡◌, ℕ, ◌≤◌, Bool, true, false, cond, eqb, List, [], ◌∷◌, ◌++◌, Option, Some, None, refl, sym, subst, arith}
use Rattle.std.specs.Prelude.{MatchOption}
use Rattle.std.specs.declared.cmp.Ordering.{Ordering}
use Rattle.std.proofs.lemmas.Bool.{eqb-true}
use Rattle.am_version_order.specs.Versions.{Version}
use Rattle.am_merge.proofs.Keys.{IsKeyOrder}
use Rattle.am_collect.specs.Events.{MapEvent, Events, taken, collections, last_moment}
use Rattle.am_collect.specs.Events.MapEvent.{Delivered, Collected, Passed}
use Rattle.am_collect.specs.Calm.{IsCalm, IsCalmAt as IsCalmEvent, IsInTime}
use Rattle.am_runs.specs.Steps.{RunStep, EachStep, IsFirstWithout, is_back_at}
use Rattle.am_runs.specs.Steps.RunStep.{Took, Ticked, Back, Refused, Saved, Stopped, Started}
use Rattle.am_runs.specs.Members.{Member, passes, member_after, member_of, set_of, last_of}
use Rattle.am_runs.specs.Runs.{IsPossible, IsRun, IsCalmStep, IsCalmAt, IsFirstFault}
use Rattle.am_runs.specs.Tests.{StaysCalm, comes_in_time, top_among, top_in, last_in}
use Rattle.am_runs.proofs.Cuts.{carried, each_front, each_nil, each_push, each_weaker, first_same}
use Rattle.am_runs.proofs.Pasts.{member_of-push, last-passes, last-one}
use Rattle.am_runs.proofs.Calmed.{calm_passes, passes_calm, to_in_time, from_in_time, top_all}
use Rattle.am_runs.proofs.Knowns.{known_of}

module _ {K X : Type 0} (seen : X → Version K) where
  -- what a calm member has and what is saved of it is calm, and was saved before its last moment
  pub record IsFit (m : Member X) : Type 0 where
    pub past : IsCalm seen [] 0 m.past
    pub saved : IsCalm seen [] 0 m.saved
    pub last : last_moment 0 m.saved ≤ last_of m

  calm_one : (past : Events X) (event : MapEvent X) (now : ℕ) → IsInTime seen (taken [] past) (collections past) event now → IsCalm seen [] 0 past → last_moment 0 past ≤ now → IsCalm seen [] 0 (past ++ (event, now) ∷ [])
  calm_one past event now in_time calm forward = each_push (λ before e. IsCalmEvent seen [] 0 before e.0 e.1) past (event, now) calm (record { forward = forward; in_time = in_time })

  pub fit_begin : (runs : Bool) → IsFit (record { past = []; saved = []; runs = runs })
  fit_begin runs = record { past = each_nil _; saved = each_nil _; last = omega arith }

  pub fit_pass : (m : Member X) (now : ℕ) (vs : List X) → last_of m ≤ now → EachStep vs (λ done v. IsInTime seen (set_of m ++ done) (collections m.past) (Delivered v) now) → IsFit m → IsFit (record { past = m.past ++ passes now vs; saved = m.saved; runs = m.runs })
  fit_pass m now vs forward each fit = record {
    past = calm_passes seen m.past now vs fit.past forward each;
    saved = fit.saved;
    last = let a = last-passes m.past now vs in let b : last_moment 0 m.saved ≤ last_of m = fit.last in omega (arith, a, b);
  }

  pub fit_tick : (m : Member X) (now : ℕ) → last_of m ≤ now → IsFit m → IsFit (record { past = m.past ++ (Collected, now) ∷ []; saved = m.saved; runs = m.runs })
  fit_tick m now forward fit = record {
    past = calm_one m.past Collected now tt fit.past forward;
    saved = fit.saved;
    last = let a = last-one m.past Collected now in let b : last_moment 0 m.saved ≤ last_of m = fit.last in omega (arith, a, b);
  }

  pub fit_start : (m : Member X) (now : ℕ) → last_of m ≤ now → IsFit m → IsFit (record { past = m.saved ++ (Passed, now) ∷ []; saved = m.saved; runs = true })
  fit_start m now forward fit =
      let b : last_moment 0 m.saved ≤ last_of m = fit.last in
      let early : last_moment 0 m.saved ≤ now = omega arith in
      record {
        past = calm_one m.saved Passed now tt fit.saved early;
        saved = fit.saved;
        last = let a = last-one m.saved Passed now in omega (arith, a, early);
      }

  pub fit_where : (b : Bool) (m n : Member X) → IsFit m → (b ≡ true → IsFit n) → IsFit (cond b n m)
  fit_where true m n fit next = next refl
  fit_where false m n fit next = fit

  module _ (cmp : K → K → Ordering) (keys : IsKeyOrder cmp) (members q : ℕ) where
    -- the test of a version, both ways
    comes_in : (before : List (RunStep X)) (now : ℕ) (done : List X) (v : X) → comes_in_time seen cmp q before now done v ≡ true → IsInTime seen (set_of (member_of members q before) ++ done) (collections (member_of members q before).past) (Delivered v) now
    comes_in before now done v test =
        let known = known_of seen cmp keys (seen v).key members q before in
        let set = set_of (member_of members q before) in
        to_in_time seen (set ++ done) (collections (member_of members q before).past) now v (top_among seen cmp (seen v).key (top_in seen cmp q (seen v).key before) done) (last_in q before)
        (top_all seen cmp keys set (seen v).key (top_in seen cmp q (seen v).key before) done known.0) known.1 test

    in_comes : (before : List (RunStep X)) (now : ℕ) (done : List X) (v : X) → IsInTime seen (set_of (member_of members q before) ++ done) (collections (member_of members q before).past) (Delivered v) now → comes_in_time seen cmp q before now done v ≡ true
    in_comes before now done v calm =
        let known = known_of seen cmp keys (seen v).key members q before in
        let set = set_of (member_of members q before) in
        from_in_time seen (set ++ done) (collections (member_of members q before).past) now v (top_among seen cmp (seen v).key (top_in seen cmp q (seen v).key before) done) (last_in q before)
        (top_all seen cmp keys set (seen v).key (top_in seen cmp q (seen v).key before) done known.0) known.1 calm

    forward_at : (before : List (RunStep X)) (place now : ℕ) → eqb place q ≡ true → last_of (member_of members place before) ≤ now → last_of (member_of members q before) ≤ now
    forward_at before place now same forward = subst (λ p. last_of (member_of members p before) ≤ now) (eqb-true place q same) forward

    -- a calm step keeps it fit
    fit_after : (before : List (RunStep X)) (step : RunStep X) → IsPossible seen cmp members before step → StaysCalm seen cmp q before step → IsFit (member_of members q before) → IsFit (member_after q (member_of members q before) step)
    fit_after before (Took place now source versions frames) can stays fit =
        let m = member_of members q before in
        fit_where (eqb place q) m _ fit (λ same. fit_pass m now versions (forward_at before place now same can.acts.forward) (each_weaker _ _ versions (λ done v. comes_in before now done v) (stays same)) fit)
    fit_after before (Ticked place now) can stays fit =
        let m = member_of members q before in
        fit_where (eqb place q) m _ fit (λ same. fit_tick m now (forward_at before place now same can.forward) fit)
    fit_after before (Back place now) can stays fit = fit_where (eqb place q) _ _ fit (λ same. fit)
    fit_after before (Refused now) can stays fit = fit
    fit_after before (Saved place) can stays fit = fit_where (eqb place q) _ _ fit (λ same. record { past = fit.past; saved = fit.past; last = omega arith })
    fit_after before (Stopped place) can stays fit = fit_where (eqb place q) _ _ fit (λ same. record { past = fit.past; saved = fit.saved; last = fit.last })
    fit_after before (Started place now) can stays fit =
        let m = member_of members q before in
        fit_where (eqb place q) m _ fit (λ same. fit_start m now (forward_at before place now same can.forward) fit)

    not_back : (before : List (RunStep X)) (step : RunStep X) → StaysCalm seen cmp q before step → is_back_at q step ≡ false
    not_back before (Took place now source versions frames) stays = refl
    not_back before (Ticked place now) stays = refl
    not_back before (Back place now) stays = stays
    not_back before (Refused now) stays = refl
    not_back before (Saved place) stays = refl
    not_back before (Stopped place) stays = refl
    not_back before (Started place now) stays = refl

    pub to_calm : (steps : List (RunStep X)) → IsRun seen cmp members steps → EachStep steps (StaysCalm seen cmp q) → IsCalmAt seen members q steps
    to_calm steps run stays before step rest e =
        let Q : List (RunStep X) → Type 0 = λ past. IsFit (member_of members q past) in
        let next : (b : List (RunStep X)) (s : RunStep X) (after : List (RunStep X)) → b ++ s ∷ after ≡ steps → Q b → Q (b ++ s ∷ []) = λ b s after d fit. subst IsFit (sym (member_of-push members q b s)) (fit_after b s (run b s after d) (stays b s after d) fit) in
        let here : Q before = carried Q steps [] before (step ∷ rest) e next (fit_begin _) in
        record { past = (next before step rest e here).past; forward = not_back before step (stays before step rest e) }

    -- and the other way
    took_stays : (b : Bool) (before : List (RunStep X)) (now : ℕ) (versions : List X) → IsCalm seen [] 0 (cond b (record { past = (member_of members q before).past ++ passes now versions; saved = (member_of members q before).saved; runs = (member_of members q before).runs }) (member_of members q before)).past → b ≡ true → EachStep versions (λ done v. comes_in_time seen cmp q before now done v ≡ true)
    took_stays true before now versions calm same = each_weaker _ _ versions (λ done v. in_comes before now done v) (passes_calm seen (member_of members q before).past now versions calm)
    took_stays false before now versions calm same = absurd cc

    from_calm : (before : List (RunStep X)) (step : RunStep X) → IsCalmStep seen members q before step → StaysCalm seen cmp q before step
    from_calm before (Took place now source versions frames) calm = took_stays (eqb place q) before now versions (subst (λ m. IsCalm seen [] 0 m.past) (member_of-push members q before (Took place now source versions frames)) calm.past)
    from_calm before (Ticked place now) calm = tt
    from_calm before (Back place now) calm = calm.forward
    from_calm before (Refused now) calm = tt
    from_calm before (Saved place) calm = tt
    from_calm before (Stopped place) calm = tt
    from_calm before (Started place now) calm = tt

    -- what the test finds is the first fault
    pub fault_told : (steps : List (RunStep X)) (found : Option ℕ) → IsRun seen cmp members steps → MatchOption found (EachStep steps (StaysCalm seen cmp q)) (IsFirstWithout steps (StaysCalm seen cmp q)) → MatchOption found (IsCalmAt seen members q steps) (IsFirstFault seen members q steps)
    fault_told steps None run told = to_calm steps run told
    fault_told steps (Some n) run told =
        first_same (StaysCalm seen cmp q) (IsCalmStep seen members q) steps n
        (λ before step rest e. (to_calm before (each_front (IsPossible seen cmp members) before (step ∷ rest) (subst (λ ss. EachStep ss (IsPossible seen cmp members)) (sym e) run)), from_calm before step)) told
