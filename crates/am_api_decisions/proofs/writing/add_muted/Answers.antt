use Rattle.am_silence_json.proofs.Bodies.{chain}
use Rattle.am_api_decisions.proofs.writing.add_muted.Goals as goal

pub returns : goal.returns
returns c =
    let labels = rw c.as_slice.ensures at c.in_ok-add_labels_of.ensures in
    let ids = rw c.as_slice-2.ensures.value at c.in_ok-add_ids.ensures in
    chain c.in_ok-add.ensures (chain labels (chain ids (chain c.in_ok-add_number.ensures c.in_ok-add-2.ensures)))
