use Rattle.am_cluster.proofs.Twinned.{twin_flights, twin_last, twin_runs}
use Rattle.am_cluster.proofs.journal.laws.twins_tell_same.Goals as goal

pub returns : goal.returns
returns c = record {
  runs = twin_runs;
  last = twin_last;
  flights = twin_flights;
}
