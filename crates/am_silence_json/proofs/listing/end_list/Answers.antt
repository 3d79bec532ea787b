use Rattle.am_silence_json.proofs.Stretches.{list_text}
use Rattle.am_silence_json.proofs.listing.end_list.Goals as goal

pub returns : goal.returns
returns c = λ ds tokens. list_text ds _ _ tokens c.in_ok-add.ensures _ c.into_inner.ensures.items
