use Rattle.am_silence_json.proofs.Bodies.{chain}
use Rattle.am_api_status.proofs.status.add_neighbor.Goals as goal

pub returns : goal.returns
returns c =
    let address = rw c.as_str.ensures.bytes at c.in_ok-add_text.ensures in
    let heard = rw c.as_str-2.ensures.bytes at c.in_ok-add_text-2.ensures in
    let name = rw c.as_str-3.ensures.bytes at c.in_ok-add_text-3.ensures in
    chain c.in_ok-add.ensures (chain address (chain c.in_ok-add_number.ensures (chain heard (chain name (chain c.in_ok-add_number-2.ensures c.in_ok-add-2.ensures)))))
