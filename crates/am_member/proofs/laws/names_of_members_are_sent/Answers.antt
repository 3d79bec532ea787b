use Rattle.std.proofs.Common.{subst}
use Rattle.am_instance.specs.Configs.{IsMemberName}
use Rattle.am_member.proofs.Names.{named_fit}
use Rattle.am_member.proofs.laws.names_of_members_are_sent.Goals as goal

pub returns : goal.returns
returns c = λ names own name members there. named_fit name (subst IsMemberName there.2 (members.sized there.0 name there.1))
