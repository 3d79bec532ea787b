use Rattle.am_silence_json.proofs.Bodies.{chain}
use Rattle.am_api_decisions.specs.Answers.{answer_data}
use Rattle.am_api_decisions.proofs.writing.add_answer.Goals as goal

pub returns : goal.returns
unfolding answer_data
returns c =
    let decided_at = rw c.as_str.ensures at c.in_ok-add_text.ensures in
    let firing = rw c.iter.ensures at c.in_ok-add_hashes.ensures in
    let group_key = rw c.as_str-2.ensures.bytes at c.in_ok-add_text-2.ensures in
    let integration = rw c.as_str-3.ensures.bytes at c.in_ok-add_text-3.ensures in
    let muted = rw c.as_slice.ensures.value at c.in_ok-add_all_muted.ensures in
    let reason = rw c.text.ensures at c.in_ok-add_text-4.ensures in
    let receiver = rw c.as_str-4.ensures.bytes at c.in_ok-add_text-5.ensures in
    let resolved = rw c.iter-2.ensures at c.in_ok-add_hashes-2.ensures in
    let last = chain receiver (chain c.in_ok-add_number.ensures (chain resolved (chain c.in_ok-add_number-2.ensures c.in_ok-add-2.ensures))) in
    chain c.in_ok-add.ensures (chain decided_at (chain firing (chain group_key (chain c.in_ok-add_index.ensures (chain integration (
    chain muted (chain c.in_ok-add_truth.ensures (chain reason last))))))))
