use Rattle.am_cluster.proofs.DurableShown.{come_in_time}
use Rattle.am_cluster.proofs.OneOfBoth.{of_log, of_silences}
use Rattle.am_cluster.proofs.laws.durable.timely_runs_bring_all_in_time.Goals as goal

pub returns-clause-silences : goal.returns-clause-silences
returns-clause-silences c = come_in_time of_silences c.args.cluster.now c.consistency.ensures.runs

pub returns-clause-log : goal.returns-clause-log
returns-clause-log c = come_in_time of_log c.args.cluster.now c.consistency.ensures.runs
