use Rattle.std.proofs.Common.{[], arith}
use Rattle.am_gossip.proofs.Streaming.{stream_cut, stream_pieces}
use Rattle.am_gossip.proofs.laws.cuts_change_nothing.Goals as goal

pub returns-clause-cut : goal.returns-clause-cut
returns-clause-cut c = λ first second. stream_cut 0 first second (omega arith)

pub returns-clause-pieces : goal.returns-clause-pieces
returns-clause-pieces c = λ pieces. stream_pieces [] pieces
