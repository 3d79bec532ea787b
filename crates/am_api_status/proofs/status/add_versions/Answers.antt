use Rattle.am_silence_json.proofs.Bodies.{chain}
use Rattle.am_api_status.proofs.status.add_versions.Goals as goal

pub returns : goal.returns
returns c =
    let last = chain c.in_ok-add_text-5.ensures (chain c.in_ok-add_text-6.ensures c.in_ok-add-3.ensures) in
    chain c.in_ok-add.ensures (chain c.in_ok-add-2.ensures (chain c.in_ok-add_text.ensures (chain c.in_ok-add_text-2.ensures (
    chain c.in_ok-add_text-3.ensures (chain c.in_ok-add_text-4.ensures last)))))
