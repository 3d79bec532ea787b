-- The greeting with which a connection of frames begins: a byte 0, a length, and the sender's name.
use Rattle.std.specs.Prelude.{◌≡◌, ℕ, ◌+◌, ◌<◌, ◌≤◌, List, [], ◌∷◌, ◌++◌, length, take, drop, Option, Some, None}
use Rattle.std.specs.Prelude.{Result, Ok, Err, nat_lt, ◌==◌, ◌||◌, if◌then◌else◌}
use Rattle.std.specs.Str.{IsUtf8, is_utf8}
use denote.Ref.{Bor}
use Rattle.am_wire.specs.declared.error.WireError.{WireError}
use Rattle.am_wire.specs.declared.error.WireError.TheVariants.{NotUtf8, Truncated}
use Rattle.am_wire.specs.Varint.{IsVarint, varint_at}
use Rattle.am_gossip.specs.declared.error.FrameError.{FrameError}
use Rattle.am_gossip.specs.declared.error.FrameError.TheVariants.{Kind, Length, Wire}

-- The name at the front of the bytes and the greeting's length, if they are whole: the name has `size` bytes, and begins
-- behind `start` others.
abbrev pub name_at : ℕ → ℕ → List ℕ → Result (Option (List ℕ × ℕ)) FrameError
name_at size start bytes =
    if nat_lt (length bytes) size then Ok None else
    if is_utf8 (take size bytes) then Ok (Some (take size bytes, start + size)) else Err (Wire (NotUtf8 0))

-- the greeting behind the byte 0: a length, which may not be whole, and the name
abbrev pub named_by : Result (ℕ × ℕ) WireError → List ℕ → Result (Option (List ℕ × ℕ)) FrameError
named_by (Ok n) bytes = if n.0 == 0 || nat_lt 255 n.0 then Err Length else name_at n.0 (n.1 + 1) (drop n.1 bytes)
named_by (Err (Truncated at)) bytes = Ok None
named_by (Err e) bytes = Err Length

-- The greeting at the front of the bytes: its name and its length, or `None` if more bytes are needed.
unfoldable pub hello_of : List ℕ → Result (Option (List ℕ × ℕ)) FrameError
hello_of [] = Ok None
hello_of (b ∷ bytes) = if b == 0 then named_by (varint_at 0 bytes) bytes else Err Kind

-- a result of the code: the name without its place in memory, and the greeting's length
abbrev pub hello_seen : Result (Option (Bor (List ℕ) × ℕ)) FrameError → Result (Option (List ℕ × ℕ)) FrameError
hello_seen (Ok (Some x)) = Ok (Some (x.0.now, x.1))
hello_seen (Ok None) = Ok None
hello_seen (Err e) = Err e

-- the text is the greeting of this name
pub record IsHello (name text : List ℕ) : Type 0 where
  pub size : List ℕ
  pub size_is : IsVarint size (length name)
  pub text_is : text ≡ 0 ∷ (size ++ name)
  pub filled : 0 < length name
  pub short : length name ≤ 255
  pub utf8 : IsUtf8 name
