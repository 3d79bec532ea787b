-- Hashes of the specification's and of Alertmanager's, so that a wrong prime or step of the definition isn't proved.
use Rattle.std.proofs.Common.{◌≡◌, [], ◌∷◌, ◌++◌, codes, refl}
use Rattle.am_api_decisions.specs.Xxh64.{add_byte, add_half, add_lane, add_lanes, add_stripe, avalanche, begun, consumed, converged, lane_at, merge, round, stripes, xxh64}
use Rattle.am_api_decisions.specs.Alerts.{alert_hash}

-- no byte
pub hash_of_nothing : xxh64 [] ≡ 0xEF46DB3751D8E999
unfolding xxh64 begun consumed add_half add_lanes avalanche
hash_of_nothing = refl

-- 31 bytes: no stripe, three lanes, half a lane and three bytes
pub hash_of_short : alert_hash (record { name = codes "severity"; value = codes "short" } ∷ record { name = codes "alertname"; value = codes "Short" } ∷ []) ≡ 0x295CFCFEBEEFD265
unfolding alert_hash xxh64 begun consumed round lane_at add_byte add_half add_lane add_lanes avalanche
hash_of_short = refl

-- 40 bytes: a stripe and a lane
pub hash_of_latency : alert_hash (record { name = codes "alertname"; value = codes "Latency" } ∷ record { name = codes "instance"; value = codes "h0" } ∷ record { name = codes "ort"; value = codes "K" ++ 0xC3 ∷ 0xB6 ∷ codes "ln" } ∷ []) ≡ 0x55B562EFA79054F0
unfolding alert_hash xxh64 begun consumed converged merge round add_stripe stripes lane_at add_byte add_half add_lane add_lanes avalanche
hash_of_latency = refl
