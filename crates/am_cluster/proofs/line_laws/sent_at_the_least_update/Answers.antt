use Rattle.am_cluster.specs.Versions.{sent_at}
use Rattle.am_cluster.proofs.Least.{sent_before, one_is_least}
use Rattle.std.proofs.Common.{refl}
use Rattle.am_cluster.proofs.line_laws.sent_at_the_least_update.Goals as goal

pub returns-clause-no_later : goal.returns-clause-no_later
returns-clause-no_later c = λ versions. sent_before (sent_at versions) versions refl

pub returns-clause-no_earlier : goal.returns-clause-no_earlier
returns-clause-no_earlier c = one_is_least
