use Rattle.std.proofs.Common.{sym, subst, arith}
use Rattle.std.specs.Prelude.{Option}
use Rattle.am_silence.specs.Mesh.{Mesh, mesh_version}
use Rattle.am_nflog.specs.Mesh.{Mesh as LogMesh, mesh_version as entry_version}
use Rattle.am_merge.specs.Maps.{if_live}
use Rattle.am_merge.specs.Views.{IsViewAt}
use Rattle.am_collect.specs.Events.{taken}
use Rattle.am_instance.specs.Deliveries.{to_silences, to_log}
use Rattle.am_instance.specs.Laws.{run_events}
use Rattle.am_instance.proofs.Histories.{silences_run, log_run}
use Rattle.am_instance.proofs.laws.steps_show_the_bare_sets.Goals as goal

pub returns-clause-silences : goal.returns-clause-silences
returns-clause-silences c = λ start new steps now id map made calm later.
    let left = silences_run start new steps made in
    let last = left.last in
    subst (λ (found : Option Mesh). IsViewAt mesh_version (taken start.silences (run_events to_silences steps)) now id (if_live mesh_version now found)) (sym (left.map id))
    (c.calm_events_show_the_bare_set.ensures start.silences start.last (run_events to_silences steps) now id map calm (omega (arith, last, later)))

pub returns-clause-log : goal.returns-clause-log
returns-clause-log c = λ start new steps now key map made calm later.
    let left = log_run start new steps made in
    let last = left.last in
    subst (λ (found : Option LogMesh). IsViewAt entry_version (taken start.log (run_events to_log steps)) now key (if_live entry_version now found)) (sym (left.map key))
    (c.calm_events_show_the_bare_set-2.ensures start.log start.last (run_events to_log steps) now key map calm (omega (arith, last, later)))
