use Rattle.am_runs.proofs.Worked.{behind_untimely}
use Rattle.am_cluster.proofs.DurableWorked.{behind_not_durable, saved_durable, saved_is_run, saved_timely}
use Rattle.am_cluster.proofs.laws.durable.worked_restarts.Goals as goal

pub returns : goal.returns
returns c = record {
  durable = saved_durable;
  timely = (saved_is_run, saved_timely);
  lossy = behind_not_durable;
  untimely = behind_untimely;
}
