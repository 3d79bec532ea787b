use Rattle.std.proofs.Common.{◌≡◌, take}
use Rattle.am_peer_auth.specs.Seals.{sealed_frames}
use Rattle.am_peer_auth.specs.Sequences.{after}
use Rattle.am_peer_auth.proofs.seal.sealed_encoding.Given as goal

abbrev pub invariant-loop-frame : goal.invariant-loop-frame
invariant-loop-frame l = record {
  encoding : l.encoding.items ≡ sealed_frames l.lock l.addressee l.fn.place (take l.frame-index l.frames);
  next : l.next ≡ after l.frame-index l.fn.place;
}
