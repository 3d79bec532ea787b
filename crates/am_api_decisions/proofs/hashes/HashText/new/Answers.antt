use Rattle.std.proofs.Common.{ap, ◌∙◌}
use Rattle.hex.specs.Hex.{encode_lower}
use Rattle.am_api_decisions.specs.Hashes.{hash_text}
use Rattle.am_api_decisions.proofs.Digits.{hex_utf8}
use Rattle.am_api_decisions.proofs.hashes.HashText.new.Goals as goal

pub invariant_of-result : goal.invariant_of-result
invariant_of-result c =
    let written = rw c.unwrap.ensures at c.encode_to_slice.ensures.written in
    rw written (hex_utf8 c.as_slice.result.now)

pub returns : goal.returns
unfolding hash_text
returns c =
    let written = rw c.unwrap.ensures at c.encode_to_slice.ensures.written in
    written ∙ ap encode_lower (c.as_slice.ensures ∙ c.to_be_bytes-number.ensures)
