use Rattle.std.proofs.Common.{inl}
use Rattle.am_http.proofs.head.read_head.Goals as goal

pub returns-in-Ok-Partial-2 : goal.returns-in-Ok-Partial-2
returns-in-Ok-Partial-2 c =
    let partial = rw c.in-Ok-Partial.field-0-is at c.in-Ok-Partial.ensures.partial in
    let unfinished = rw c.in-Ok-Partial.field-0-is at c.in-Ok-Partial.ensures.unfinished in
    inl (c.if-bytes-lt-MOST_HEAD_BYTES.false, record { none = rw (← c.window.ensures) partial; may_become = rw (← c.window.ensures) unfinished })
