-- Parts of a text that are kept as the offset of their length in it (protobuf: length-delimited fields).
use Rattle.std.specs.Prelude.{◌≡◌, ℕ, ◌<◌, ◌≤◌, ◌^◌, ◌⊎◌, List, [], ◌++◌, length, drop}
use Rattle.am_wire.specs.Varint.{shortest}
use Rattle.am_wire.specs.declared.offset.Offset.{Offset}

-- after `start` bytes of the text, the part follows behind its length
pub record Follows (start : ℕ) (part text : List ℕ) : Type 0 where
  pub rest : List ℕ
  pub within : start ≤ length text
  pub short : length part < 2 ^ 64
  pub is : drop start text ≡ shortest (length part) ++ (part ++ rest)

-- the part is at the offset; a text that has parts begins with a tag, so 0 is free to be the offset of the empty part
abbrev pub StandsAt : List ℕ → Offset → List ℕ → Type 0
StandsAt part offset text = ((offset.start ≡ 0) × (part ≡ [])) ⊎ ((0 < offset.start) × Follows offset.start part text)
