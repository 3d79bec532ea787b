use Rattle.std.proofs.Common.{arith, sym}
use Rattle.std.proofs.lemmas.List.{take_all}
use Rattle.am_http.proofs.head.window.Goals as goal

pub returns-in-None : goal.returns-in-None
returns-in-None c = sym (take_all 16384 c.args.bytes.now (omega (arith, c.in-None.ensures.cases)))
