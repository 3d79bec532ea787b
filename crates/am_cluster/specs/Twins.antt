-- Two runs that tell of the same steps, each with the versions of its own type.
use Rattle.std.specs.Prelude.{◌≡◌, List, [], ◌∷◌, length}
use Rattle.am_runs.specs.Steps.{RunStep}
use Rattle.am_runs.specs.Steps.RunStep.{Took, Ticked, Back, Refused, Saved, Stopped, Started}

-- the steps are the same apart from the versions; an event sent as many frames in both
abbrev pub IsTwin : {X Y : Type 0} → RunStep X → RunStep Y → Type 0
IsTwin (Took place now source versions frames) (Took other then origin others sent) =
    (place ≡ other) × (now ≡ then) × (source ≡ origin) × (length frames ≡ length sent)
IsTwin (Ticked place now) (Ticked other then) = (place ≡ other) × (now ≡ then)
IsTwin (Back place now) (Back other then) = (place ≡ other) × (now ≡ then)
IsTwin (Refused now) (Refused then) = now ≡ then
IsTwin (Saved place) (Saved other) = place ≡ other
IsTwin (Stopped place) (Stopped other) = place ≡ other
IsTwin (Started place now) (Started other then) = (place ≡ other) × (now ≡ then)
IsTwin _ _ = ⊥

-- both runs have as many steps, each the twin of the one at its place
abbrev pub AreTwins : {X Y : Type 0} → List (RunStep X) → List (RunStep Y) → Type 0
AreTwins [] [] = Unit {0}
AreTwins (step ∷ steps) (twin ∷ twins) = IsTwin step twin × AreTwins steps twins
AreTwins _ _ = ⊥
