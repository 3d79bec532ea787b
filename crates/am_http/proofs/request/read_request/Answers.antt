use Rattle.am_http.proofs.Answering.{read_taken}
use Rattle.am_http.proofs.request.read_request.Goals as goal

pub returns-in-Whole : goal.returns-in-Whole
returns-in-Whole c = read_taken _ _ _ _ _ _ c.in-Whole.ensures c.taken.ensures
