-- Worked runs, which show the meaning of the definitions. There is one key, and moments are whole numbers.
use Rattle.std.specs.Prelude.{ℕ, List, [], ◌∷◌}
use Rattle.am_version_order.specs.Versions.{Version}
use Rattle.am_runs.specs.declared.step.DeliverySource.TheVariants.{Made, Written, Arrived}
use Rattle.am_runs.specs.Steps.{RunStep}
use Rattle.am_runs.specs.Steps.RunStep.{Took, Ticked, Stopped, Started}

-- a version of the one key, with these moments
abbrev pub version : ℕ → ℕ → Version ℕ
version updated expires = record { key = 0; updated = updated; expires = expires; content = [] }

-- the greater version, which expires sooner
abbrev pub greater : Version ℕ
greater = version 6 10

-- the lesser version, which lives longer
abbrev pub lesser : Version ℕ
lesser = version 3 100

-- member 0 takes the greater version, collects it, and then takes the lesser one; member 1 takes both before it collects
abbrev pub forgotten : List (RunStep (Version ℕ))
forgotten =
    Took 0 7 (Written 6) (greater ∷ []) []
    ∷ (Ticked 0 12
    ∷ (Took 0 20 (Written 3) (lesser ∷ []) []
    ∷ (Took 1 20 (Written 3) (lesser ∷ []) []
    ∷ (Took 1 21 (Written 6) (greater ∷ []) []
    ∷ (Ticked 1 22
    ∷ [])))))

-- a version that lives long enough to spread
abbrev pub spreading : Version ℕ
spreading = version 10 200

-- member 0 restarts from nothing after the version has come to both members
abbrev pub restarted : List (RunStep (Version ℕ))
restarted =
    Took 0 10 (Written 10) (spreading ∷ []) []
    ∷ (Took 1 10 (Written 10) (spreading ∷ []) []
    ∷ (Stopped 0
    ∷ (Started 0 11
    ∷ [])))

-- the same run, in which member 0 acts when the version should have come to it
abbrev pub behind : List (RunStep (Version ℕ))
behind =
    Took 0 10 (Written 10) (spreading ∷ []) []
    ∷ (Took 1 10 (Written 10) (spreading ∷ []) []
    ∷ (Stopped 0
    ∷ (Started 0 11
    ∷ (Took 0 15 Made [] []
    ∷ []))))

-- a version that expires soon after it is made
abbrev pub passing : Version ℕ
passing = version 10 20

-- member 0 makes a version and sends it; later it sends its whole map, in which the version has expired
abbrev pub late : List (RunStep (Version ℕ))
late =
    Took 0 10 Made (passing ∷ []) ((passing ∷ []) ∷ [])
    ∷ (Took 1 12 (Arrived 0) (passing ∷ []) []
    ∷ (Took 0 25 Made [] ((passing ∷ []) ∷ [])
    ∷ (Took 1 26 (Arrived 1) (passing ∷ []) []
    ∷ [])))
