-- The bytes that one peer sends to another: its greeting, and frames behind it.
use Rattle.std.specs.Prelude.{ℕ, Bool, ◌&&◌, nat_lt, nat_le, List, ◌∷◌, ◌++◌, length}
use Rattle.std.specs.List.{list_all}
use Rattle.am_wire.specs.Varint.{shortest}
use Rattle.am_gossip.specs.declared.frame.Frame.{Frame}
use Rattle.am_gossip.specs.Frames.{fits}

-- the one greeting that is written for a name: a byte 0, its length and the name
abbrev pub greeting_encoding : List ℕ → List ℕ
greeting_encoding name = 0 ∷ (shortest (length name) ++ name)

-- true if a greeting may have a name: it has 1 to 255 bytes
abbrev pub is_name : List ℕ → Bool
is_name name = nat_lt 0 (length name) && nat_le (length name) 255

-- true if the payload of each frame keeps the limit of its kind
abbrev pub all_fit : List Frame → Bool
all_fit frames = list_all fits frames
