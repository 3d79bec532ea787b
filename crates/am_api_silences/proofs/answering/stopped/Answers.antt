use Rattle.std.proofs.Common.{refl}
use Rattle.am_api_silences.specs.Answers.{IsErrorBytes}
use Rattle.am_api_silences.specs.Replies.{Says}
use Rattle.am_api_silences.specs.declared.replies.ResponseBytes.TheVariants.{Fixed}
use Rattle.am_api_silences.proofs.Beginning.{whole_makes}
use Rattle.am_api_silences.proofs.Telling.{says_clock, says_memory}
use Rattle.am_api_silences.proofs.answering.stopped.Goals as goal

pub returns-in-MomentBack-clause-reply : goal.returns-in-MomentBack-clause-reply
returns-in-MomentBack-clause-reply c = whole_makes (Says (IsErrorBytes c.args.error)) c.tell-reply.result c.quiet.result.making c.quiet.ensures.making (
    says_clock c.args.error c.in-MomentBack.last c.clock_ran_back.result c.tell-reply.result c.tell-reply.result c.in-MomentBack.is c.clock_ran_back.ensures refl c.tell-reply.ensures
    )

pub returns-in_default-clause-reply : goal.returns-in_default-clause-reply
returns-in_default-clause-reply c = whole_makes (Says (IsErrorBytes c.args.error)) (Fixed c.no_memory.result) c.quiet-in_default.result.making c.quiet-in_default.ensures.making (
    says_memory (IsErrorBytes c.args.error) c.no_memory.result (Fixed c.no_memory.result) refl c.no_memory.ensures
    )
