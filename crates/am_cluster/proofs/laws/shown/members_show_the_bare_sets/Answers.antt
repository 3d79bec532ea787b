use Rattle.am_cluster.proofs.OneOfBoth.{of_log, of_silences, show_the_bare_set}
use Rattle.am_cluster.proofs.laws.shown.members_show_the_bare_sets.Goals as goal

pub returns-clause-silences : goal.returns-clause-silences
returns-clause-silences c = show_the_bare_set of_silences c.calm_members_show_the_bare_set.ensures c.args.cluster.now c.consistency.ensures.world

pub returns-clause-log : goal.returns-clause-log
returns-clause-log c = show_the_bare_set of_log c.calm_members_show_the_bare_set-2.ensures c.args.cluster.now c.consistency.ensures.world
