use Rattle.am_api_decisions.proofs.Noticed.{answer_notice}
use Rattle.am_api_decisions.proofs.laws.a_written_answer_is_a_notice.Goals as goal

pub returns : goal.returns
returns c = answer_notice
