-- The places of an entry's parts in a text.
use Rattle.std.specs.Prelude.{ℕ, List}
use Rattle.std.specs.List.{flat_map}
use Rattle.am_wire.specs.Offsets.{StandsAt}
use Rattle.am_wire.specs.Varint.{shortest}
use Rattle.am_nflog.specs.declared.entry.Entry.{Entry}
use Rattle.am_nflog.specs.declared.offsets.Offsets.{Offsets}

-- the group hash of an entry is at its offset, and so are its two lists, whose numbers are spelled there one after another
pub record StandAt (entry : Entry) (offsets : Offsets) (text : List ℕ) : Type 0 where
  pub group_hash : StandsAt entry.group_hash offsets.group_hash text
  pub firing_alerts : StandsAt (flat_map shortest entry.firing_alerts) offsets.firing_alerts text
  pub resolved_alerts : StandsAt (flat_map shortest entry.resolved_alerts) offsets.resolved_alerts text
