use Rattle.std.proofs.Common.{subst}
use Rattle.am_wire.proofs.Offsets.{stands_grown}
use Rattle.am_silence.specs.declared.offsets.Offsets.{Offsets}
use Rattle.am_silence.specs.declared.silence.Silence.{Silence}
use Rattle.am_silence.specs.Offsets.{StandIn}
use Rattle.am_silence.specs.Silences.{IsSilence}
use Rattle.am_silence.proofs.OffsetsKept.{between_grown}
use Rattle.am_silence.proofs.offsets.write_silence.Goals as goal

pub returns-clause-value : goal.returns-clause-value
returns-clause-value g c =
    let values = rw c.lent.ensures at c.in_ok-matchers.ensures.values in
    subst IsSilence c.fields.view_is (search (values, c.in_ok-write_message.ensures.value, c.in_ok-write_message-2.ensures.value, c.in_ok-write_message-3.ensures.value))

pub returns-clause-places : goal.returns-clause-places
returns-clause-places g c =
    let starts = c.in_ok-write_message.ensures.written in
    let ends = c.in_ok-write_message-2.ensures.written in
    let updated = c.in_ok-write_message-3.ensures.written in
    let author = c.in_ok-created_by.ensures.written in
    let comment = c.in_ok-comment.ensures.written in
    let between = rw c.lent.ensures at c.in_ok-matchers.ensures.between in
    let bucket = rw c.lent.ensures at c.in_ok-matchers.ensures.bucket in
    let author_stands = rw c.as_bytes.ensures.value at c.in_ok-created_by.ensures.offset in
    let comment_stands = rw c.as_bytes-2.ensures.value at c.in_ok-comment.ensures.offset in
    let places : Offsets = record { matchers = c.in_ok-matchers.matchers; matchers_end = c.in_ok-matchers.matchers_end; created_by = c.in_ok-created_by.created_by; comment = c.in_ok-comment.comment; bucket = c.in_ok-matchers.bucket } in
    subst (λ (s : Silence). StandIn s places c.write_part-2.new.out.items) c.fields.view_is
    (record {
      matchers = between_grown (between_grown (between_grown (between_grown (between_grown between _ starts) _ ends) _ updated) _ author) _ comment;
      created_by = stands_grown author_stands _ comment;
      comment = comment_stands;
      bucket = stands_grown (stands_grown (stands_grown (stands_grown (stands_grown bucket _ starts) _ ends) _ updated) _ author) _ comment;
    })
