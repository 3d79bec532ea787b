use Rattle.am_cluster.proofs.States.{of_log as log_facts, of_silences as silence_facts}
use Rattle.am_cluster.proofs.DurableShown.{show_what_came}
use Rattle.am_cluster.proofs.OneOfBoth.{of_log, of_silences}
use Rattle.am_cluster.proofs.laws.durable.durable_members_show_what_came.Goals as goal

pub returns-clause-silences : goal.returns-clause-silences
returns-clause-silences c = show_what_came of_silences silence_facts.keys c.args.cluster.now c.members_show_the_bare_sets.ensures.silences

pub returns-clause-log : goal.returns-clause-log
returns-clause-log c = show_what_came of_log log_facts.keys c.args.cluster.now c.members_show_the_bare_sets.ensures.log
