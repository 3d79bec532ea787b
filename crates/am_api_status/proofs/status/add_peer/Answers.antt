use Rattle.am_silence_json.proofs.Bodies.{chain}
use Rattle.am_api_status.proofs.status.add_peer.Goals as goal

pub returns : goal.returns
returns c =
    let address = rw c.as_str.ensures.bytes at c.in_ok-add_text.ensures in
    let name = rw c.as_str-2.ensures.bytes at c.in_ok-add_text-2.ensures in
    chain c.in_ok-add.ensures (chain address (chain name c.in_ok-add-2.ensures))
