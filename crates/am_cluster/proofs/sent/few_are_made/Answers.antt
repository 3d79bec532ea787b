use Rattle.am_cluster.proofs.Counting.{few_silences}
use Rattle.am_cluster.proofs.sent.few_are_made.Goals as goal

pub returns-clause-silences : goal.returns-clause-silences
returns-clause-silences c = λ old new event now outcome step. few_silences old event now outcome.reply outcome.made step.reply

pub returns-clause-arrivals : goal.returns-clause-arrivals
returns-clause-arrivals c = λ old new sender frame now outcome step. step.reply.1
