use Rattle.std.proofs.Common.{arith, sym}
use Rattle.std.proofs.lemmas.List.{take_all}
use Rattle.am_api_decisions.proofs.recent.first_of.Goals as goal

pub returns-in-None : goal.returns-in-None
returns-in-None c = sym (take_all 512 c.args.alerts.now (omega (arith, c.in-None.ensures.cases)))
