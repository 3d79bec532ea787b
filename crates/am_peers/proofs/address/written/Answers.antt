use Rattle.std.proofs.Common.{IfNone, Option, Some, None, arith, ap}
use Rattle.std.proofs.NetLemmas.Theorems.{IsSocketText_unique}
use Rattle.std.specs.Net.Socket.{socket_port}
use Rattle.std.specs.declared.net.socket_addr.SocketAddr.{SocketAddr}
use Rattle.am_peers.proofs.address.written.Goals as goal

-- what follows of none from what follows of none
none_so : (found : Option SocketAddr) (P Q : Type 0) → (P → Q) → IfNone found P → IfNone found Q
none_so None P Q f p = f p
none_so (Some _) P Q f p = p

pub returns-in-Ok-clause-none : goal.returns-in-Ok-clause-none
returns-in-Ok-clause-none c = none_so c.with_port.result _ _
    (λ zero address is.
    let same = IsSocketText_unique c.args.word.now address c.in-Ok.address is.0 c.in-Ok.ensures.value in
    let port = ap socket_port same in
    absurd (omega (arith, is.1, zero, port)))
    c.with_port.ensures.none
