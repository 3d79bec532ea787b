use Rattle.std.specs.Prelude.{ℕ, length}
use Rattle.am_wire.specs.declared.value.Value.{Value}
use Rattle.am_wire.specs.declared.value.Value.TheVariants as values

-- the length of a payload of bytes, and 0 for any other
abbrev pub payload_len : Value → ℕ
payload_len (values.Varint n) = 0
payload_len (values.Eight n) = 0
payload_len (values.Four n) = 0
payload_len (values.Bytes b) = length b.now
