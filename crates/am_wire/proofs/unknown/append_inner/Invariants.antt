use Rattle.std.proofs.Common.{◌≡◌, ◌++◌}
use Rattle.am_wire.specs.Expiring.{expiring_fits}
use Rattle.am_wire.specs.Fields.{fields_of}
use Rattle.am_wire.specs.Reading.{sound_fields}
use Rattle.am_wire.specs.Unknown.{unknown_inside}
use Rattle.am_wire.proofs.unknown.append_inner.Given as goal

abbrev pub invariant-loop-item : goal.invariant-loop-item
invariant-loop-item l =
    l.out.items ++ unknown_inside l.known 1 (sound_fields l.item-iterator)
    ≡ l.initial.out.items ++ unknown_inside l.known 1 (sound_fields (fields_of expiring_fits l.at l.bytes))
