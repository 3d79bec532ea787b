use Rattle.std.proofs.Common.{◌-◌}
use Rattle.am_connection.specs.Connections.{stand}
use Rattle.am_connection.proofs.Hearing.{HasHeard}
use Rattle.am_connection.proofs.conversing.converse.Given as goal

abbrev pub invariant-loop-size : goal.invariant-loop-size
invariant-loop-size g l = HasHeard l.bits l.now l.count (g.R.Read.remaining l.fn.reader) (g.R.Read.remaining l.reader)
    (stand l.fn.session l.fn.instance l.fn.effects (g.W.Write.contents l.fn.writer)) (stand l.session l.instance l.effects (g.W.Write.contents l.writer))

abbrev pub decreases-loop-size : goal.decreases-loop-size
decreases-loop-size g l = 134217729 - l.count
