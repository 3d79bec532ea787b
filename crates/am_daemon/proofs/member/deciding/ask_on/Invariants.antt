use Rattle.am_api_decisions.specs.Asking.{HoldsSame}
use Rattle.am_api_decisions.specs.declared.parsed_call.Question.{Question}
use Rattle.am_server.specs.Answered.{ForPages}
use Rattle.am_server.specs.Calls.{IsUnderway}
use Rattle.am_daemon.proofs.member.deciding.ask_on.Given as goal

abbrev pub invariant-loop : goal.invariant-loop
invariant-loop g l = record {
  steps : ForPages l.fn.instance l.instance;
  same : HoldsSame l.fn.instance l.instance;
  asked : (question : Question) → IsUnderway question l.fn.deciding → IsUnderway question l.left;
}
