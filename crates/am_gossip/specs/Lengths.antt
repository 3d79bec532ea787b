-- The reading of lengths byte by byte.
use Rattle.std.specs.Prelude.{◌≡◌, ℕ, ◌+◌, ◌≤◌, List, [], ◌∷◌, ◌++◌, length, All, Ok, Err}
use Rattle.am_wire.specs.declared.error.WireError.TheVariants.{LongVarint}
use Rattle.am_wire.specs.Varint.{total, varint_at}
use Rattle.am_gossip.specs.declared.groups.Groups.{Groups}
use Rattle.am_gossip.specs.declared.length.Next.{Next}
use Rattle.am_gossip.specs.declared.length.Next.TheVariants.{More, Whole, TooLong}

-- the groups are those of these bytes, each of which says that another follows
pub record IsGroups (g : Groups) (bytes : List ℕ) : Type 0 where
  pub places : g.places ≡ length bytes
  pub value : g.value ≡ total bytes
  pub go_on : All (λ b. 128 ≤ b) bytes

-- one more byte has this effect on the number, whatever follows
abbrev pub Continues : List ℕ → ℕ → Next → Type 0
Continues bytes byte (More g) = IsGroups g (bytes ++ byte ∷ [])
Continues bytes byte (Whole n) = (rest : List ℕ) → varint_at 0 (bytes ++ byte ∷ rest) ≡ Ok (n, length bytes + 1)
Continues bytes byte TooLong = (rest : List ℕ) → varint_at 0 (bytes ++ byte ∷ rest) ≡ Err (LongVarint 0)
