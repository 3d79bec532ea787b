use Rattle.std.proofs.Common.{rules, is_ok}
use Rattle.std.specs.IoError.{error_kind}
use Rattle.am_store.proofs.rewriting.remove_new.Goals as goal

pub returns-clause-removed : goal.returns-clause-removed
returns-clause-removed g c = (is_ok c.remove.result, c.remove.ensures.noted)

pub returns-clause-fault : goal.returns-clause-fault
returns-clause-fault g c = (error_kind c.args.error, search rules)
