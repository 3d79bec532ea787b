use Rattle.std.proofs.Common.{◌≡◌, ◌<◌, ◌^◌, drop}
use Rattle.am_schedule.specs.Numbers.{hex_behind}
use Rattle.am_schedule.proofs.numbers.bits.Given as goal

abbrev pub invariant-loop-byte : goal.invariant-loop-byte
invariant-loop-byte l = record { read : hex_behind l.bits (drop l.byte-index l.byte-items) ≡ hex_behind 0 l.byte-items; small : l.bits < 16 ^ l.byte-index }
