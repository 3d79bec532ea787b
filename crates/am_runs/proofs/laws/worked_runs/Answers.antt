use Rattle.am_runs.proofs.Worked.{forgotten_is_run, forgotten_shows, remembered_shows, forgotten_uncalm, restarted_timely, behind_untimely, late_timely}
use Rattle.am_runs.proofs.laws.worked_runs.Goals as goal

pub returns : goal.returns
returns c = record {
  forgotten = forgotten_is_run;
  shown = forgotten_shows;
  hidden = remembered_shows;
  uncalm = forgotten_uncalm;
  timely = restarted_timely;
  untimely = behind_untimely;
  late = late_timely;
}
