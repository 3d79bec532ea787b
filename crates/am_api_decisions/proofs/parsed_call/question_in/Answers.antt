use Rattle.am_api_decisions.proofs.Faults.{body_fault}
use Rattle.am_api_decisions.proofs.parsed_call.question_in.Goals as goal

pub returns-in-Err-clause-refused : goal.returns-in-Err-clause-refused
returns-in-Err-clause-refused c =
    body_fault c.args.query.now c.args.body.now c.in_ok-terms.terms c.in-Err.cause c.in_ok-terms.ensures.read c.in-Err.ensures.refused
