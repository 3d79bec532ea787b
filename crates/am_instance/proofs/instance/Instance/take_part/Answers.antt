use Rattle.std.proofs.Common.{ap, refl, sym, ◌∙◌}
use Rattle.am_instance.specs.InstanceStates.{InstanceState}
use Rattle.am_instance.proofs.Lifts.{silence_fault, log_fault}
use Rattle.am_instance.proofs.PartTakings.{on_ok, on_err, silences_delivered, silences_counted, silences_sent, silences_stopped, entries_delivered, entries_counted, entries_sent, entries_stopped}
use Rattle.am_instance.proofs.instance.Instance.take_part.Goals as goal

pub merge_row-requires : goal.merge_row-requires
merge_row-requires c = rw (c.as_slice-row.ensures, c.unknown.ensures) (sym (silence_fault c.self.inside.config.unknown c.args.part.now c.in-Sil.is) ∙ rw (← c.self.view_is) at c.requires)

pub merge_row-requires-in-Nfl : goal.merge_row-requires-in-Nfl
merge_row-requires-in-Nfl c = rw (c.as_slice-row.ensures, c.unknown.ensures) (sym (log_fault c.self.inside.config.unknown c.args.part.now c.in-Nfl.is) ∙ rw (← c.self.view_is) at c.requires)

pub returns-in-Sil-clause-delivered : goal.returns-in-Sil-clause-delivered
returns-in-Sil-clause-delivered c = rw (← c.self.view_is) (on_ok c.merge_row.result (λ taken. silences_delivered c.self.inside.config.unknown c.unknown.result c.unknown.ensures c.args.part.now c.args.now _ _ refl refl c.in-Sil.is refl c.as_slice-row.result.now c.as_slice-row.ensures taken) c.merge_row.ensures.map)

pub returns-in-Sil-clause-count : goal.returns-in-Sil-clause-count
returns-in-Sil-clause-count c = on_ok c.merge_row.result (λ count. silences_counted c.args.self.now.config.unknown c.unknown.result (c.unknown.ensures ∙ ap (λ (s : InstanceState). s.config.unknown) c.self.view_is) c.args.part.now c.args.now c.args.self.now c.args.self.now refl refl c.in-Sil.is refl c.as_slice-row.result.now c.as_slice-row.ensures _ _ count) c.merge_row.ensures.count

pub returns-in-Sil-clause-sent : goal.returns-in-Sil-clause-sent
returns-in-Sil-clause-sent c =
    let stand : InstanceState = record { config = c.self.inside.config; silences = c.self.inside.silences; log = c.self.inside.log; last = c.self.inside.last } in
    let route = rw (← c.self.view_is) at c.route.ensures.places in
    rw (← c.self.view_is) (on_ok c.merge_row.result (λ sent. silences_sent c.self.inside.config.unknown c.unknown.result c.unknown.ensures c.args.part.now c.args.now stand stand refl refl c.in-Sil.is refl c.as_slice-row.result.now c.as_slice-row.ensures _ _ _ _ route sent) c.merge_row.ensures.sent)

pub returns-in-Sil-clause-stopped : goal.returns-in-Sil-clause-stopped
returns-in-Sil-clause-stopped c = rw (← c.self.view_is) (on_err c.merge_row.result (λ stop. silences_stopped c.self.inside.config.unknown c.unknown.result c.unknown.ensures c.args.part.now c.args.now _ _ refl refl c.in-Sil.is refl c.as_slice-row.result.now c.as_slice-row.ensures _ _ stop) c.merge_row.ensures.stopped)

pub returns-in-Nfl-clause-delivered : goal.returns-in-Nfl-clause-delivered
returns-in-Nfl-clause-delivered c = rw (← c.self.view_is) (on_ok c.merge_row-in-Nfl.result (λ taken. entries_delivered c.self.inside.config.unknown c.unknown.result c.unknown.ensures c.args.part.now c.args.now _ _ refl refl c.in-Nfl.is refl c.as_slice-row.result.now c.as_slice-row.ensures taken) c.merge_row-in-Nfl.ensures.map)

pub returns-in-Nfl-clause-count : goal.returns-in-Nfl-clause-count
returns-in-Nfl-clause-count c = on_ok c.merge_row-in-Nfl.result (λ count. entries_counted c.args.self.now.config.unknown c.unknown.result (c.unknown.ensures ∙ ap (λ (s : InstanceState). s.config.unknown) c.self.view_is) c.args.part.now c.args.now c.args.self.now c.args.self.now refl refl c.in-Nfl.is refl c.as_slice-row.result.now c.as_slice-row.ensures _ _ count) c.merge_row-in-Nfl.ensures.count

pub returns-in-Nfl-clause-sent : goal.returns-in-Nfl-clause-sent
returns-in-Nfl-clause-sent c =
    let stand : InstanceState = record { config = c.self.inside.config; silences = c.self.inside.silences; log = c.self.inside.log; last = c.self.inside.last } in
    let route = rw (← c.self.view_is) at c.route.ensures.places in
    rw (← c.self.view_is) (on_ok c.merge_row-in-Nfl.result (λ sent. entries_sent c.self.inside.config.unknown c.unknown.result c.unknown.ensures c.args.part.now c.args.now stand stand refl refl c.in-Nfl.is refl c.as_slice-row.result.now c.as_slice-row.ensures _ _ _ _ route sent) c.merge_row-in-Nfl.ensures.sent)

pub returns-in-Nfl-clause-stopped : goal.returns-in-Nfl-clause-stopped
returns-in-Nfl-clause-stopped c = rw (← c.self.view_is) (on_err c.merge_row-in-Nfl.result (λ stop. entries_stopped c.self.inside.config.unknown c.unknown.result c.unknown.ensures c.args.part.now c.args.now _ _ refl refl c.in-Nfl.is refl c.as_slice-row.result.now c.as_slice-row.ensures _ _ stop) c.merge_row-in-Nfl.ensures.stopped)
