-- Laws of all lines.
use Rattle.std.specs.Prelude.{◌≡◌, ◌≤◌, ◌<◌, ℕ, List, length, All, Contains, Some, slice_get}
use Rattle.am_version_order.specs.Moments.{greatest}
use Rattle.am_instance.specs.Configs.{Settings, AreInOrder, place_named}
use Rattle.am_instance.specs.Deliveries.{Delivery}
use Rattle.am_cluster.specs.Versions.{updated, sent_at}

-- in a cluster, whose members are in order, a member stands at the place of its name
abbrev pub NamesAreFound : Type 0
NamesAreFound =
    (config : Settings) (place : ℕ) (name : List ℕ) → AreInOrder config.members → slice_get config.members place ≡ Some name
    → place_named config name ≡ Some place

-- no version was updated before its frame counts as sent
abbrev pub SentByThen : Type 0
SentByThen = (versions : List Delivery) → All (λ v. sent_at versions ≤ updated v) versions

-- one of the versions was updated just at this moment
pub record IsUpdatedAt (versions : List Delivery) (at : ℕ) : Type 0 where
  pub version : Delivery
  pub among : Contains versions version
  pub then : updated version ≡ at

abbrev pub SentNoEarlier : Type 0
SentNoEarlier = (versions : List Delivery) → 0 < length versions → All (λ v. updated v ≤ greatest) versions
    → IsUpdatedAt versions (sent_at versions)
