use Rattle.std.proofs.Common.{Err}
use Rattle.am_api_silences.proofs.serving.serve.Goals as goal

pub returns-in-Err : goal.returns-in-Err
returns-in-Err g c = (Err c.in-Err.fault, c.in-Err.ensures, c.silent.ensures c.args.instance.now (g.W.Write.contents c.args.writer.now))
