use Rattle.am_api_decisions.proofs.Noticed.{answer_text}
use Rattle.am_api_decisions.proofs.laws.a_written_answer_is_read.Goals as goal

pub returns : goal.returns
returns c = answer_text
