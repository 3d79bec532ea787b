use Rattle.am_api_decisions.proofs.Told.{says_line}
use Rattle.am_api_decisions.proofs.noticing.stopped.Goals as goal

pub returns : goal.returns
returns c = λ reply same. (says_line _ _ c.tell.result reply c.refused.ensures same c.tell.ensures, c.new.ensures)
