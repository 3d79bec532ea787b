use Rattle.std.proofs.Common.{arith}
use Rattle.std.proofs.lemmas.Grind.{common_steps}
use Rattle.am_peers.proofs.Whole.{all_read}
use Rattle.am_peers.proofs.asking.read_reply.Goals as goal

pub returns-clause-all : goal.returns-clause-all
returns-clause-all g c =
    all_read g.R.Read.remaining c.take-limited.result c.args.reader 67125248 c.new-reply.result.items c.read_to_end.new.buf.items c.take-limited.ensures.limit c.take-limited.ensures.inner c.new-reply.ensures.items c.in_default.ensures.bytes (grind (arith, common_steps))
