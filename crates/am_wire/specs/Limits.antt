use Rattle.std.specs.Prelude.{ℕ}
use Rattle.am_wire.specs.declared.rows.TheConstants.{MOST_MESSAGE_BYTES}

-- the maximum length of a message, of one in a row, and of an input that has no other limit
abbrev pub most : ℕ
most = MOST_MESSAGE_BYTES
