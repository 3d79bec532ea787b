-- One state of a member, as steps go on.
use Rattle.std.proofs.Common.{◌≡◌, ℕ, Bool, true, false, cond, List, [], ◌∷◌, ◌++◌, refl, sym, ap, ◌∙◌, subst}
use Rattle.am_collect.specs.Kept.{Kept}
use Rattle.am_collect.specs.Events.MapEvent.{Passed}
use Rattle.am_runs.specs.Steps.{RunStep, is_at}
use Rattle.am_runs.specs.Steps.RunStep.{Saved, Stopped, Started}
use Rattle.am_runs.specs.Members.{Member, stepped, member_of}
use Rattle.am_runs.proofs.Pasts.{member_of-push, last-one, map_of-append}
use Rattle.am_cluster.specs.BothStates.{StateOf}
use Rattle.am_cluster.specs.Ties.{IsTied}

pub same_where : {A : Type 0} (b : Bool) (m : A) → cond b m m ≡ m
same_where true m = refl
same_where false m = refl

module _ {K X : Type 0} (state : StateOf K X) (members q : ℕ) (before : List (RunStep X)) (s : RunStep X) (runs : Bool) (kept : Kept X) (saved : List X) where
  -- a step of another member changes nothing
  pub tied_elsewhere : is_at q s ≡ false → IsTied state (member_of members q before) runs kept saved → IsTied state (member_of members q (before ++ s ∷ [])) runs kept saved
  tied_elsewhere other tied =
      subst (λ m. IsTied state m runs kept saved) (sym (member_of-push members q before s ∙ ap (λ b. cond b (stepped (member_of members q before) s) (member_of members q before)) other)) tied

  -- nor does one that makes nothing of a member
  pub tied_idle : stepped (member_of members q before) s ≡ member_of members q before → IsTied state (member_of members q before) runs kept saved →
      IsTied state (member_of members q (before ++ s ∷ [])) runs kept saved
  tied_idle idle tied =
      subst (λ m. IsTied state m runs kept saved)
      (sym (member_of-push members q before s ∙ (ap (λ n. cond (is_at q s) n (member_of members q before)) idle ∙ same_where (is_at q s) (member_of members q before)))) tied

  -- a step of the member's own makes of it what it says
  pub tied_here : is_at q s ≡ true → IsTied state (stepped (member_of members q before) s) runs kept saved → IsTied state (member_of members q (before ++ s ∷ [])) runs kept saved
  tied_here own tied =
      subst (λ m. IsTied state m runs kept saved) (sym (member_of-push members q before s ∙ ap (λ b. cond b (stepped (member_of members q before) s) (member_of members q before)) own)) tied

module _ {K X : Type 0} (state : StateOf K X) (m : Member X) (place now : ℕ) (runs : Bool) (kept : Kept X) (saved : List X) where
  pub tied_saved : IsTied state m runs kept saved → IsTied state (stepped m (Saved place)) runs kept kept.held
  tied_saved t = record { runs = t.runs; held = t.held; saved = t.held.map }

  pub tied_stopped : IsTied state m runs kept saved → IsTied state (stepped m (Stopped place)) false kept saved
  tied_stopped t = record { runs = refl; held = t.held; saved = t.saved }

  pub tied_started : IsTied state m runs kept saved → IsTied state (stepped m (Started place now)) true (record { held = saved; last = now }) saved
  tied_started t = record {
    runs = refl;
    held = record {
      map = λ key. t.saved key ∙ sym (ap (λ f. f key) (map_of-append state.seen state.cmp m.saved ((Passed, now) ∷ [])));
      last = sym (last-one m.saved Passed now);
    };
    saved = t.saved;
  }
