-- The beginning of a cluster.
use Rattle.std.specs.Prelude.{◌≡◌, ℕ, true, List, [], length, map, Some, slice_get, IsPermutation}
use Rattle.std.specs.List.{range_with_len}
use Rattle.am_wire.specs.declared.unknown.Unknown.TheVariants.{Drop}
use Rattle.am_matcher.specs.declared.dialect.Dialect.TheVariants.{Regex}
use Rattle.am_instance.specs.Configs.{Settings, AreInOrder}
use Rattle.am_cluster.specs.Worlds.{Replica, World}

-- the member at a place, which runs, is empty, and stands at the first moment
abbrev pub newborn : Settings → ℕ → Replica
newborn settings place = record {
  stand = record { config = record settings { place = place }; silences = []; log = []; last = 0 };
  runs = true;
  saved_silences = [];
  saved_log = [];
}

-- a newborn member at each place of a configuration
abbrev pub newborns : Settings → List Replica
newborns settings = map (newborn settings) (range_with_len 0 (length settings.members))

-- The members are those of these names, in the order of the names, with patterns of `regex`, they drop unknown fields, and nothing
-- has happened yet.
pub record AreNewborn (names : List (List ℕ)) (retention peer_timeout : ℕ) (world : World) : Type 0 where
  pub ordered : List (List ℕ)
  pub order : AreInOrder ordered
  pub among : IsPermutation names ordered
  pub members : world.replicas ≡ newborns (record { members = ordered; place = 0; retention = retention; peer_timeout = peer_timeout; dialect = Regex; unknown = Drop })
  pub silences : world.silences ≡ []
  pub log : world.log ≡ []
  pub lines : world.lines ≡ []
  pub flights : world.flights ≡ []

-- each member is newborn, all by one configuration, which drops unknown fields
abbrev pub AreUnborn : List Replica → Type 0
AreUnborn replicas = (settings : Settings) × (settings.unknown ≡ Drop) × (length settings.members ≡ length replicas)
    × ((place : ℕ) (replica : Replica) → slice_get replicas place ≡ Some replica → replica ≡ newborn settings place)
