use Rattle.am_dedup.proofs.Decides.{untold, unlogged}
use Rattle.am_dedup.proofs.laws.what_fires_untold_is_notified.Goals as goal

pub returns-clause-listed : goal.returns-clause-listed
returns-clause-listed c = untold

pub returns-clause-none : goal.returns-clause-none
returns-clause-none c = unlogged
