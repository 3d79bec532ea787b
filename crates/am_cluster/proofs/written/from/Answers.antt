use Rattle.am_cluster.specs.Versions.{versions_of}
use Rattle.am_cluster.proofs.Least.{sent_before}
use Rattle.am_cluster.proofs.written.from.Goals as goal

pub returns-clause-sent : goal.returns-clause-sent
returns-clause-sent c = sent_before c.sent_at-sent.result (versions_of c.args.versions.now) c.sent_at-sent.ensures
