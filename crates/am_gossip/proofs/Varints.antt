-- Numbers at the front of bytes.
use Rattle.std.proofs.Common.{◌≡◌, ℕ, ◌≤◌, List, length, Ok}
use Rattle.am_wire.specs.Varint.{varint_at}
use Rattle.am_wire.proofs.Spelled.{read_spells}

pub varint_within_bytes : (at : ℕ) (bytes : List ℕ) (n : ℕ × ℕ) → varint_at at bytes ≡ Ok n → n.1 ≤ length bytes
varint_within_bytes at bytes n e = (read_spells at 9 bytes n e).within

pub varint_few : (at : ℕ) (bytes : List ℕ) (n : ℕ × ℕ) → varint_at at bytes ≡ Ok n → n.1 ≤ 10
varint_few at bytes n e = (read_spells at 9 bytes n e).len_in
