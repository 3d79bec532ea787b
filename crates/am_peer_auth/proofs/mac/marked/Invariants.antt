use Rattle.std.proofs.Common.{◌≡◌, length, take, map}
use Rattle.std.specs.Prelude.{bit_xor}
use Rattle.am_peer_auth.proofs.mac.marked.Given as goal

abbrev pub invariant-bytes : goal.invariant-bytes
invariant-bytes l = (length l.out ≡ 64) × (take l.place l.out ≡ map (λ byte. bit_xor byte l.mark) (take l.place l.block))
