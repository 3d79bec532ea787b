-- The header of a frame: the byte of its kind, and the length of its payload.
use Rattle.std.specs.Prelude.{ℕ, ◌+◌, List, [], ◌∷◌, Option, Some, None, Result, Ok, Err, nat_lt, if◌then◌else◌}
use Rattle.am_wire.specs.declared.error.WireError.{WireError}
use Rattle.am_wire.specs.declared.error.WireError.TheVariants.{Truncated}
use Rattle.am_wire.specs.Varint.{varint_at}
use Rattle.am_gossip.specs.declared.error.FrameError.{FrameError}
use Rattle.am_gossip.specs.declared.error.FrameError.TheVariants.{Kind, Length}
use Rattle.am_gossip.specs.declared.kind.FrameKind.{FrameKind}
use Rattle.am_gossip.specs.Kinds.{kind_at, limit}

-- The header at the front of bytes: its kind, the payload's length and its own length; or a fault; or the need for more
-- bytes.
pub data Header : Type 0 where
  head : FrameKind → ℕ → ℕ → Header
  bad : FrameError → Header
  more : Header

-- the header behind the byte of its kind; the length is tested at its end
abbrev pub header_with_length : FrameKind → Result (ℕ × ℕ) WireError → Header
header_with_length kind (Ok n) = if nat_lt (limit kind) n.0 then bad Length else head kind n.0 (n.1 + 1)
header_with_length kind (Err (Truncated at)) = more
header_with_length kind (Err e) = bad Length

-- the header from its kind on, which is tested as soon as its byte is there
abbrev pub header_with_kind : Option FrameKind → List ℕ → Header
header_with_kind None bytes = bad Kind
header_with_kind (Some kind) bytes = header_with_length kind (varint_at 0 bytes)

-- the header at the front of the bytes
unfoldable pub header_of : List ℕ → Header
header_of [] = more
header_of (code ∷ bytes) = header_with_kind (kind_at code) bytes
