use Rattle.am_wire.proofs.Offsets.{stands_grown}
use Rattle.am_silence.specs.declared.silence.Silence.{Silence}
use Rattle.am_silence.proofs.Passed.{silence_passed}
use Rattle.am_silence.proofs.OffsetsKept.{between_grown}
use Rattle.am_silence.proofs.canonical.pass_silence.Goals as goal

pub returns-clause-passed : goal.returns-clause-passed
returns-clause-passed c =
    let s : Silence = record {
      id = c.in_ok-id.id.now;
      matchers = c.in_ok-matchers.matchers;
      starts_at = c.in_ok-starts_at.starts_at;
      ends_at = c.in_ok-ends_at.ends_at;
      updated_at = c.in_ok-updated_at.updated_at;
      created_by = c.in_ok-created_by.created_by.now;
      comment = c.in_ok-comment.comment.now;
    } in
    silence_passed s _ _ _ _ _ _ _ _ c.in_ok-id.ensures.passed c.in_ok-matchers.ensures.passed c.in_ok-starts_at.ensures.passed
    c.in_ok-ends_at.ensures.passed c.in_ok-updated_at.ensures.passed c.in_ok-created_by.ensures.passed c.in_ok-comment.ensures.passed

pub returns-clause-places : goal.returns-clause-places
returns-clause-places c =
    let starts = c.in_ok-starts_at.ensures.passed.passed in
    let ends = c.in_ok-ends_at.ensures.passed.passed in
    let updated = c.in_ok-updated_at.ensures.passed.passed in
    let author = c.in_ok-created_by.ensures.passed.passed in
    let comment = c.in_ok-comment.ensures.passed.passed in
    let between = c.in_ok-matchers.ensures.between in
    let bucket = c.in_ok-matchers.ensures.bucket in
    record {
      matchers = between_grown (between_grown (between_grown (between_grown (between_grown between _ starts) _ ends) _ updated) _ author) _ comment;
      created_by = stands_grown c.in_ok-created_by.ensures.place _ comment;
      comment = c.in_ok-comment.ensures.place;
      bucket = stands_grown (stands_grown (stands_grown (stands_grown (stands_grown bucket _ starts) _ ends) _ updated) _ author) _ comment;
    }
