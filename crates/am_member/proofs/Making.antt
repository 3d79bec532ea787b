-- Steps one after the other.
use Rattle.std.proofs.Common.{◌≡◌, ℕ, List, [], ◌∷◌, ◌++◌, Err, refl, sym, subst, ap, ◌∙◌, append_assoc}
use Rattle.am_gossip.specs.declared.frame.Frame.{Frame}
use Rattle.am_gossip.specs.declared.refusals.StepError.{StepError}
use Rattle.am_instance.specs.declared.event.Event.TheVariants as events
use Rattle.am_instance.specs.InstanceStates.{InstanceState}
use Rattle.am_instance.specs.OneStep.{IsStep}
use Rattle.am_member.specs.declared.session_answer.StepEffects.{StepEffects}
use Rattle.am_member.specs.Incoming.{MakesAll, MakesStep, SoFar, StopsAt, so_far}

-- one more
pub all_more : (sender now : ℕ) (frames : List Frame) (frame : Frame) (before mid after : SoFar) →
    MakesAll sender now frames before mid → MakesStep sender now frame mid after → MakesAll sender now (frames ++ frame ∷ []) before after
all_more sender now [] frame before mid after made step = (after, subst (λ (s : SoFar). MakesStep sender now frame s after) made step, refl)
all_more sender now (f ∷ fs) frame before mid after made step = (made.0, made.1, all_more sender now fs frame made.0 mid after made.2 step)

-- a list is what was taken of it and what is left, also when one more is taken
pub one_on : {A : Type 0} → (all taken left rest : List A) (x : A) → all ≡ taken ++ left → left ≡ x ∷ rest → all ≡ (taken ++ x ∷ []) ++ rest
one_on all taken left rest x is next = is ∙ (ap (λ xs. taken ++ xs) next ∙ sym (append_assoc taken (x ∷ []) rest))

-- the first step that is refused, behind others
pub stops : (sender now : ℕ) (frames made others : List Frame) (frame : Frame) (before : SoFar) (mid : InstanceState) (between : StepEffects) (new : InstanceState) (after : StepEffects) (error : StepError) →
    frames ≡ made ++ frame ∷ others → MakesAll sender now made before (so_far mid between) → IsStep mid (events.Frame sender frame) now (Err error) new → after ≡ between →
    StopsAt sender now frames before (so_far new after) error
stops sender now frames made others frame before mid between new after error is made_all step kept = record {
  made = made;
  mid = mid;
  made_all = subst (λ (e : StepEffects). MakesAll sender now made before (so_far mid e)) (sym kept) made_all;
  frame = frame;
  refused = step;
  others = others;
  frames_are = is;
}

-- and where it is met
pub split_on : {A : Type 0} → (all taken left rest : List A) (x : A) → all ≡ taken ++ left → left ≡ x ∷ rest → all ≡ taken ++ x ∷ rest
split_on all taken left rest x is next = is ∙ ap (λ xs. taken ++ xs) next
