use Rattle.std.proofs.Common.{sym, ◌∙◌}
use Rattle.am_snapshot.proofs.OneFault.{faults_alike, no_fault, none_too_large}
use Rattle.am_snapshot.proofs.laws.an_input_has_one_fault.Goals as goal

pub returns-clause-one : goal.returns-clause-one
returns-clause-one g c unknown limit input messages others left rest e d first second = faults_alike (g.M.Message.reads unknown) input messages others e d first.0 second.0

pub returns-clause-too_large : goal.returns-clause-too_large
returns-clause-too_large g c unknown limit input messages others left rest e first second = none_too_large (g.M.Message.reads unknown) limit input messages others e first.1 first.2 second

pub returns-clause-whole : goal.returns-clause-whole
returns-clause-whole g c unknown limit input messages others left e first all = no_fault (g.M.Message.reads unknown) messages others e (sym first.0 ∙ all)
