use Rattle.std.proofs.Common.{sym, arith}
use Rattle.std.proofs.lemmas.List.{take_all}
use Rattle.am_peers.proofs.reply.window.Goals as goal

pub returns-in-None : goal.returns-in-None
returns-in-None c = sym (take_all 16384 c.args.reply.now (omega (arith, c.in-None.ensures.cases)))
