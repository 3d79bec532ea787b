use Rattle.am_instance.specs.Deliveries.{to_silences, to_log}
use Rattle.am_instance.specs.InstanceStates.{kept_silences, kept_log}
use Rattle.am_instance.specs.Laws.{run_events}
use Rattle.am_instance.proofs.Histories.{silences_run, log_run}
use Rattle.am_instance.proofs.laws.equal_sets_show_alike.Goals as goal

pub returns : goal.returns
returns c = λ start begin one other steps others now first second same_silences same_entries silences entries after_first after_second. record {
  silences = λ id.
      c.calm_keepers_agree.ensures (kept_silences start) (kept_silences begin) (run_events to_silences steps) (run_events to_silences others) (kept_silences one) (kept_silences other) now id
      (record { map = first.maps.silences; calm = first.silences; left = silences_run start one steps first.made })
      (record { map = second.maps.silences; calm = second.silences; left = silences_run begin other others second.made })
      same_silences silences after_first after_second;
  log = λ key.
      c.calm_keepers_agree-2.ensures (kept_log start) (kept_log begin) (run_events to_log steps) (run_events to_log others) (kept_log one) (kept_log other) now key
      (record { map = first.maps.log; calm = first.log; left = log_run start one steps first.made })
      (record { map = second.maps.log; calm = second.log; left = log_run begin other others second.made })
      same_entries entries after_first after_second;
}
