use Rattle.am_dedup.proofs.Sets.{member_is, alike}
use Rattle.am_dedup.proofs.laws.order_and_repetition_do_not_count.Goals as goal

pub returns-clause-members : goal.returns-clause-members
returns-clause-members c = member_is

pub returns-clause-alike : goal.returns-clause-alike
returns-clause-alike c = alike
