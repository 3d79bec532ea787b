-- The state of a part's draft after some fields.
use Rattle.std.specs.Prelude.{◌≡◌, List}
use Rattle.am_wire.specs.Fields.{FieldAt}
use Rattle.am_wire.specs.Reading.{last_text}
use Rattle.am_gossip.specs.declared.payload.PartDraft.{PartDraft}

-- the draft holds the last key and the last bytes of the fields
pub record IsPartDraft (es : List FieldAt) (d : PartDraft) : Type 0 where
  pub key : d.key.text.now ≡ last_text 1 es
  pub bytes : d.bytes.bytes.now ≡ last_text 2 es
