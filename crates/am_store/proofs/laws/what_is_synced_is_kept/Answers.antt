use Rattle.am_store.proofs.Crashes.{kept, none_there}
use Rattle.am_store.proofs.laws.what_is_synced_is_kept.Goals as goal

pub returns-clause-there : goal.returns-clause-there
returns-clause-there c = kept

pub returns-clause-absent : goal.returns-clause-absent
returns-clause-absent c = none_there
