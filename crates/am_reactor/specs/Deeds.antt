-- The calls of a service, one connection at a time.
use Rattle.std.specs.Prelude.{◌≡◌, ℕ, Bool, true, false, List, [], ◌∷◌}
use Rattle.std.specs.List.{flat_map}
use Rattle.am_reactor.specs.declared.fault.Broken.{Broken}

-- A call for the session of one connection: these bytes came, or its input ended; these bytes of it went out; a stretch of the
-- work that waits is done; its commit is over, or its moment has come; what waits is done at once or given up; it is broken
-- off.
pub data Deed : Type 0 where
  Fed : List ℕ → Deed
  Ended : Deed
  Sent : List ℕ → Deed
  Resumed : Deed
  Released : Deed
  ReachedDeadline : Deed
  AbandonedWait : Deed
  BrokenOff : Broken → Deed

-- the calls that tell of pieces that came
abbrev pub feeds : List (List ℕ) → List Deed
feeds [] = []
feeds (piece ∷ pieces) = Fed piece ∷ feeds pieces

-- the call that tells of the end, if the end was met
abbrev pub ending : Bool → Bool → List Deed
ending false true = Ended ∷ []
ending was is = []

-- the calls that tell of pieces that went out
abbrev pub sends : List (List ℕ) → List Deed
sends [] = []
sends (piece ∷ pieces) = Sent piece ∷ sends pieces

-- all the bytes of pieces, one after the other
abbrev pub joined : List (List ℕ) → List ℕ
joined pieces = flat_map (λ piece. piece) pieces

module _ {S T : Type 0} (does : S → T → Deed → S → T → Type 0) where
  -- calls, one after the other, lead from one service and session to others
  abbrev pub Did : S → T → List Deed → S → T → Type 0
  Did service session [] service' session' = (service' ≡ service) × (session' ≡ session)
  Did service session (deed ∷ deeds) service' session' =
      (next : S) × (then : T) × does service session deed next then × Did next then deeds service' session'
