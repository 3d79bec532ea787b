use Rattle.std.proofs.Common.{◌≡◌, ◌<◌, ◌^◌, drop}
use Rattle.std.specs.Slice.Scan.{big_endian}
use Rattle.am_memberlist.proofs.number.big_endian.Given as goal

abbrev pub invariant-loop-byte : goal.invariant-loop-byte
invariant-loop-byte l = (big_endian l.value (drop l.byte-index l.bytes) ≡ big_endian 0 l.bytes) × (l.value < 256 ^ l.byte-index)
