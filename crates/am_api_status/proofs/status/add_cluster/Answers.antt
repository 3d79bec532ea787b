use Rattle.am_silence_json.proofs.Bodies.{chain}
use Rattle.am_api_status.proofs.status.add_cluster.Goals as goal

pub returns : goal.returns
returns c =
    let name = rw c.as_str.ensures.bytes at c.in_ok-add_text.ensures in
    let peers = rw c.as_slice.ensures.value at c.in_ok-add_peers.ensures in
    let word = rw c.status_word.ensures at c.in_ok-add_text-2.ensures in
    chain c.in_ok-add.ensures (chain c.in_ok-add-2.ensures (chain name (chain peers (chain word c.in_ok-add-3.ensures))))
