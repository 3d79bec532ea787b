use Rattle.std.proofs.Common.{◌≡◌, take}
use Rattle.std.specs.Prelude.{◌↔◌, IsTrue}
use Rattle.am_peer_auth.proofs.mac.are_same.Given as goal

abbrev pub invariant-bytes : goal.invariant-bytes
invariant-bytes l = IsTrue l.same ↔ (take l.place l.sum ≡ take l.place l.other)
