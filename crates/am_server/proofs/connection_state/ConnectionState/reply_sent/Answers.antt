use Rattle.std.proofs.Common.{◌≡◌, ◌≤◌, ◌+◌, ap, arith, length, length-drop, refl, subst}
use Rattle.am_api_silences.specs.Replies.{bytes_of}
use Rattle.am_server.specs.declared.connection_state.ConnectionWork.{ConnectionWork}
use Rattle.am_server.specs.Talks.{pending_of, saying_in}
use Rattle.am_server.proofs.connection_state.ConnectionState.reply_sent.Goals as goal

pub returns-in-Reply : goal.returns-in-Reply
returns-in-Reply c =
    let going = c.in-Reply.outgoing in
    let within = subst (λ (work : ConnectionWork). c.args.count ≤ length (pending_of (saying_in work))) c.in-Reply.is c.requires.within in
    let whole : length c.as_slice.result.now ≡ length (bytes_of going.reply) = ap length c.as_slice.ensures in
    let sum : c.min-outgoing.result ≡ going.written + c.args.count = omega (
      arith,
      c.min-outgoing.ensures,
      c.saturating_add.ensures,
      c.max-end.ensures,
      c.max-end.type_inv,
      within,
      length-drop going.written (bytes_of going.reply),
      whole,
    ) in
    rw (c.in-Reply.is, sum) refl
