use Rattle.std.proofs.Common.{subst, sym, ◌∙◌}
use Rattle.std.specs.Str.{IsUtf8}
use Rattle.am_silence.proofs.MatcherParts.{text_left_out, text_follows, front_is, front_not, no_front}
use Rattle.am_silence.proofs.iter.split_text.Goals as goal
use Rattle.am_silence.proofs.iter.split_text.Goals.{then-is_empty-via-then-is_empty, then-is_empty-via-else-is_empty+then-bytes-tag}

pub returns-then-is_empty : goal.returns-then-is_empty
returns-then-is_empty c = λ text rest h.
    elim c.then-is_empty.branch [
      | then-is_empty-via-then-is_empty w ↦ text_left_out h (no_front _ _ w.if-is_empty.ensures)
      | then-is_empty-via-else-is_empty+then-bytes-tag w ↦ text_left_out h (front_not _ _ w.if-bytes-tag.true)
    ]

pub split_part-requires : goal.split_part-requires
split_part-requires c =
    let first = front_is c.args.bytes.now c.args.tag c.if-is_empty.ensures c.if-bytes-tag.false in
    (c.requires.0, text_follows c.requires.2 first)

pub from_utf8_unchecked-requires : goal.from_utf8_unchecked-requires
from_utf8_unchecked-requires c =
    let first = front_is c.args.bytes.now c.args.tag c.if-is_empty.ensures c.if-bytes-tag.false in
    subst IsUtf8 (sym (c.split_part.ensures _ (text_follows c.requires.2 first)).0) c.requires.2.value

pub returns : goal.returns
returns c = λ text rest h.
    let first = front_is c.args.bytes.now c.args.tag c.if-is_empty.ensures c.if-bytes-tag.false in
    let parts = c.split_part.ensures _ (text_follows h first) in
    (c.from_utf8_unchecked.ensures ∙ parts.0, parts.1)
