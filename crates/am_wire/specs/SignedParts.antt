-- A moment and the two numbers of its timestamp, taken as signed numbers in two's complement.
use Rattle.std.specs.Prelude.{◌≡◌, ℕ, pos, List}
use Rattle.std.specs.List.{AllPass}
use Rattle.std.specs.Int.{w32, w64, cast_signed}
use Rattle.am_version_order.specs.Moments.{AreParts, since_least}
use Rattle.am_wire.specs.Fields.{FieldAt}
use Rattle.am_wire.specs.Grammar.{AreFields, field_fits}
use Rattle.am_wire.specs.Reading.{last_number}
use Rattle.am_wire.specs.Timestamps.{timestamp, low_half}

-- the seconds, as an int64, and the low 32 bits of the nanos, as an int32, are the parts of the moment
pub record ArePartsOf (seconds nanos moment : ℕ) : Type 0 where
  pub rest : ℕ
  pub rest_is : cast_signed w32 (low_half nanos) ≡ pos rest
  pub parts : AreParts (cast_signed w64 seconds) rest
  pub moment_is : pos moment ≡ since_least (cast_signed w64 seconds) rest

-- the bytes are fields of a timestamp, and the last number of each kind is a part of the moment
pub record IsTimestampOf (moment at : ℕ) (bytes : List ℕ) : Type 0 where
  pub fields : List FieldAt
  pub are_fields : AreFields fields at bytes
  pub fit : AllPass (field_fits timestamp.fits) fields
  pub parts : ArePartsOf (last_number 1 fields) (last_number 2 fields) moment
