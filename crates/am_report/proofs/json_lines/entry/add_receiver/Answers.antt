use Rattle.am_silence_json.proofs.Bodies.{chain}
use Rattle.am_report.proofs.json_lines.entry.add_receiver.Goals as goal

pub returns : goal.returns
returns c =
    let name = rw c.group_name.ensures.bytes at c.in_ok-add_text.ensures in
    let integration = rw c.integration.ensures.bytes at c.in_ok-add_text-2.ensures in
    let idx = rw c.idx.ensures at c.in_ok-add_number.ensures in
    chain c.in_ok-add.ensures (chain c.in_ok-add-2.ensures (chain name (chain integration (chain c.in_ok-add-3.ensures (chain idx c.in_ok-add-4.ensures)))))
