use Rattle.std.proofs.Common.{Err}
use Rattle.am_api_silences.proofs.answering.begin_answer.Goals as goal

pub returns-in-Err : goal.returns-in-Err
returns-in-Err c = λ reply made. record {
  meant = Err c.in-Err.refusal;
  means = c.in-Err.ensures;
  refused = c.refuse.ensures c.args.instance.now reply made;
  stepped = tt;
}
