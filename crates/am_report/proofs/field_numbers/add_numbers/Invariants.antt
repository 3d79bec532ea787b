use Rattle.std.proofs.Common.{◌≡◌, map}
use Rattle.am_wire.specs.Reading.{sound_fields}
use Rattle.am_report.specs.UnknownFields.{numbers_in, with_numbers}
use Rattle.am_report.proofs.field_numbers.add_numbers.Given as goal

-- with those of the fields that are left, all are added
abbrev pub invariant-loop-item : goal.invariant-loop-item
invariant-loop-item l =
    with_numbers l.numbers.keys (map (λ e. e.number) (sound_fields l.item-iterator)) ≡ with_numbers l.initial.numbers.keys (numbers_in l.bytes)
