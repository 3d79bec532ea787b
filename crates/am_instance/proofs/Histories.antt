-- Each map at the end of a run.
use Rattle.std.proofs.Common.{List, [], ◌∷◌, refl, sym, subst}
use Rattle.std.specs.Ordering.{nat_cmp}
use Rattle.std.specs.Cmp.Lexicographic.{slice_cmp}
use Rattle.am_silence.specs.Mesh.{mesh_version}
use Rattle.am_nflog.specs.Mesh.{mesh_version as entry_version}
use Rattle.am_nflog.specs.Keys.{key_cmp}
use Rattle.am_collect.proofs.Runs.{IsLeftBy-append}
use Rattle.am_instance.specs.Deliveries.{to_silences, to_log}
use Rattle.am_instance.specs.InstanceStates.{InstanceState, kept_silences, kept_log, AreSilencesLeftBy, IsLogLeftBy}
use Rattle.am_instance.specs.Steps.{step_events}
use Rattle.am_instance.specs.Laws.{Happened, AreMade, run_events}

pub silences_run : (old new : InstanceState) (hs : List Happened) → AreMade old hs new → AreSilencesLeftBy (kept_silences old) (run_events to_silences hs) (kept_silences new)
silences_run old new [] same = subst (λ stand. AreSilencesLeftBy (kept_silences old) [] (kept_silences stand)) (sym same) (record { forward = tt; map = λ key. refl; last = refl })
silences_run old new (h ∷ hs) made =
    IsLeftBy-append mesh_version (slice_cmp nat_cmp) (kept_silences old) (kept_silences h.left) (kept_silences new) (step_events to_silences h.left.config.unknown h.event h.now h.answer) (run_events to_silences hs)
    made.0 (silences_run h.left new hs made.2)

pub log_run : (old new : InstanceState) (hs : List Happened) → AreMade old hs new → IsLogLeftBy (kept_log old) (run_events to_log hs) (kept_log new)
log_run old new [] same = subst (λ stand. IsLogLeftBy (kept_log old) [] (kept_log stand)) (sym same) (record { forward = tt; map = λ key. refl; last = refl })
log_run old new (h ∷ hs) made =
    IsLeftBy-append entry_version key_cmp (kept_log old) (kept_log h.left) (kept_log new) (step_events to_log h.left.config.unknown h.event h.now h.answer) (run_events to_log hs)
    made.1 (log_run h.left new hs made.2)
