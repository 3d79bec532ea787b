use Rattle.std.proofs.Common.{refl}
use Rattle.slab.specs.Slab.{with_value}
use Rattle.am_reactor.specs.Streams.{arrived_over, gone_over}
use Rattle.am_reactor.proofs.Histories.{stays_written}
use Rattle.am_reactor.proofs.connections.register.Goals as goal

pub returns-in-Some : goal.returns-in-Some
returns-in-Some g c =
    rw c.from.ensures (stays_written arrived_over gone_over c.args.key c.args.connections.now.table c.in-Some.connection.now _ (with_value c.args.connections.now.table c.args.key _) refl
    (rw c.from.ensures at c.in-Some.ensures.value) (record { session = refl; unread = c.register.ensures.kept.0; unwritten = c.register.ensures.kept.1; leaves = refl }))
