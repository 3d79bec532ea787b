use Rattle.std.proofs.Common.{◌≡◌, [], ◌++◌, length}
use Rattle.std.specs.Option.{option_map_or}
use Rattle.am_wire.specs.Reading.{sound_fields}
use Rattle.am_report.specs.UnknownFields.{between, bytes_at, bytes_of, start_of}
use Rattle.am_report.proofs.field_numbers.bytes_at.Given as goal

-- with the field that began, and those that are left, all are appended
abbrev pub invariant-loop-item : goal.invariant-loop-item
invariant-loop-item l =
    (l.out.items ++ option_map_or (λ start. between start (start_of (length l.bytes) (sound_fields l.item-iterator)) l.bytes) l.begun [])
    ++ bytes_of l.number l.bytes (sound_fields l.item-iterator) ≡ bytes_at l.number l.bytes
