use Rattle.std.proofs.Common.{refl}
use Rattle.std.proofs.lemmas.Result.{err_from_is_err_and}
use Rattle.am_schedule.proofs.EventRows.{event_by}
use Rattle.am_schedule.proofs.events.event.Goals as goal

pub returns-in_ok-post-in-Post : goal.returns-in_ok-post-in-Post
returns-in_ok-post-in-Post c = rw (c.in-Post.is, event_by, c.in_ok-post-in-Post.ensures) refl

pub returns-in_err-post-in-Post : goal.returns-in_err-post-in-Post
returns-in_err-post-in-Post c =
    let p = err_from_is_err_and c.from_residual-in_err-post-in-Post.result c.from_residual-in_err-post-in-Post.ensures.1 in
    rw (c.in-Post.is, event_by, p.1, p.2) (λ other. rw (c.in_err-post-in-Post.ensures other) refl)

pub returns-in_ok-group-in-Notified : goal.returns-in_ok-group-in-Notified
returns-in_ok-group-in-Notified c = rw (c.in-Notified.is, event_by, c.in_ok-group-in-Notified.ensures) refl

pub returns-in_err-group-in-Notified : goal.returns-in_err-group-in-Notified
returns-in_err-group-in-Notified c =
    let p = err_from_is_err_and c.from_residual-in_err-group-in-Notified.result c.from_residual-in_err-group-in-Notified.ensures.1 in
    rw (c.in-Notified.is, event_by, p.1, p.2) (λ other. rw (c.in_err-group-in-Notified.ensures other) refl)

pub returns-in_err-group-in-Decide : goal.returns-in_err-group-in-Decide
returns-in_err-group-in-Decide c =
    let p = err_from_is_err_and c.from_residual-in_err-group-in-Decide.result c.from_residual-in_err-group-in-Decide.ensures.1 in
    rw (c.in-Decide.is, event_by, p.1, p.2) (λ other. rw (c.in_err-group-in-Decide.ensures other) refl)
