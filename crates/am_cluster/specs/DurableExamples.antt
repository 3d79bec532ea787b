-- A worked run of a durable member.
use Rattle.std.specs.Prelude.{ℕ, List, [], ◌∷◌}
use Rattle.am_version_order.specs.Versions.{Version}
use Rattle.am_runs.specs.declared.step.DeliverySource.TheVariants.{Made, Written}
use Rattle.am_runs.specs.Examples.{spreading}
use Rattle.am_runs.specs.Steps.{RunStep}
use Rattle.am_runs.specs.Steps.RunStep.{Took, Saved, Stopped, Started}

-- the run `behind`, except that member 0 is saved after the version has come to it
abbrev pub saved_behind : List (RunStep (Version ℕ))
saved_behind =
    Took 0 10 (Written 10) (spreading ∷ []) []
    ∷ (Saved 0
    ∷ (Took 1 10 (Written 10) (spreading ∷ []) []
    ∷ (Stopped 0
    ∷ (Started 0 11
    ∷ (Took 0 15 Made [] []
    ∷ [])))))
