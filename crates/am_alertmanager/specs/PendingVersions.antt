-- The versions that wait for a replica.
use Rattle.std.specs.Prelude.{◌≡◌, ◌≢◌, ◌⊎◌, ℕ, List, [], ◌∷◌, ◌++◌}
use Rattle.am_alertmanager.specs.declared.pending_versions.PendingVersions.{PendingVersions}

-- no version that has come waits for the replica
pub record HasNothingNew (pending_versions : PendingVersions) : Type 0 where
  pub silences : pending_versions.silences ≡ []
  pub entries : pending_versions.entries ≡ []

-- there is nothing to tell the replica
pub record IsSilent (pending_versions : PendingVersions) : Type 0 where
  pub given : pending_versions.given.items ≡ []
  pub come : HasNothingNew pending_versions

-- a row is given after the others, unless it has no bytes
abbrev pub MayGive : {G : Type 0} → List ℕ → G → List G → List G → Type 0
MayGive bytes row old new = ((bytes ≡ []) × (new ≡ old)) ⊎ ((bytes ≢ []) × (new ≡ old ++ row ∷ []))
