use Rattle.std.proofs.Common.{[]}
use Rattle.am_cluster.proofs.writing.write_silent.Goals as goal

pub returns : goal.returns
returns c = c.write_with.ensures [] c.nothing_sent.ensures
