-- The one peer of a name.
use Rattle.std.proofs.Common.{◌≡◌, ℕ, List, Some}
use Rattle.std.specs.Prelude.{slice_get}
use Rattle.am_instance.specs.Configs.{Settings}
use Rattle.am_member.specs.Incoming.{IsOnlyPeerOf, IsPeerOf}

-- no other peer has its name
pub only_peer : (config : Settings) (name : List ℕ) (place : ℕ) → ((other : ℕ) → slice_get config.members other ≡ Some name → other ≡ place) → IsPeerOf config name place → IsOnlyPeerOf config name place
only_peer config name place only found = record { found = found; alone = λ other peer. only other peer.named }
