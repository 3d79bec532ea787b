use Rattle.std.proofs.Common.{refl}
use Rattle.am_api_silences.specs.Answers.{Answered, IsRefusalAnswer}
use Rattle.am_api_silences.proofs.Beginning.{becomes}
use Rattle.am_api_silences.proofs.answering.refuse.Goals as goal

pub returns : goal.returns
returns c = λ stand. becomes (λ (answered : Answered). IsRefusalAnswer c.args.refusal.now stand answered stand) c.tell.result c.quiet.result c.quiet.ensures.making
    c.quiet.ensures.sent (record { says = c.tell.ensures; sent = refl; same = refl })
