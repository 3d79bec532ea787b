use Rattle.std.proofs.Common.{sym, refl}
use Rattle.uuid.proofs.TextLemmas.{by_index_length}
use Rattle.am_silence.specs.Ids.{id_text}
use Rattle.am_silence.proofs.ids.fresh_id.Goals as goal

pub copy_from_slice-requires : goal.copy_from_slice-requires
copy_from_slice-requires c =
    rw (c.as_bytes.ensures.value, c.encode_lower-text.ensures.text) (sym (by_index_length 36 _))

pub returns : goal.returns
unfolding id_text
returns c =
    rw (c.copy_from_slice.ensures.after, c.as_bytes.ensures.value, c.encode_lower-text.ensures.text, c.hyphenated.ensures, c.into_uuid-id.ensures, c.from_random_bytes.ensures.value, c.to_be_bytes.ensures) refl
