use Rattle.std.specs.Prelude.{⊤, ◌≢◌, None}
use Rattle.std.proofs.Common.{⊎_elim, List, subst}
use Rattle.std.proofs.lemmas.List.{append_cancel_left}
use Rattle.am_store.specs.Calls.{Event}
use Rattle.am_store.specs.Crashes.{MayLeaveDuring}
use Rattle.am_store.specs.Rewrites.{RewritingStop, IsCause}
use Rattle.am_store.proofs.RewriteCrashes.{leaves_new, log_covers}
use Rattle.am_store.proofs.laws.no_crash_leaves_the_old_file_without_the_old_log.Goals as goal

pub returns-clause-rewritten : goal.returns-clause-rewritten
returns-clause-rewritten g c = λ path most maps before calls disk left its stays anew may none.
    ⊎_elim (λ there. absurd (there none)) (λ new. new.0)
    (log_covers path disk left (λ found there log. there ≢ None) (λ there log. ⊤) (λ found there log is. tt) (λ there log is. tt) stays its
    anew.row anew.stood anew.ended anew.directory anew.standing (subst (λ (events : List Event). MayLeaveDuring events disk left) (append_cancel_left before _ _ anew.calls) may))

pub returns-clause-stopped : goal.returns-clause-stopped
returns-clause-stopped g c = λ path most map maps before calls fault disk left its stays stops may none.
    ⊎_elim (λ there. absurd (there none)) (λ new. (new.0, new.1))
    (leaves_new path disk left (λ found there log. there ≢ None) (λ there log. ⊤) (λ found there log is. tt) (λ there log is. tt) stays its
    stops.row stops.place stops.stood stops.removed stops.ended stops.directory stops.stop stops.whole
    (λ is. (subst (λ (s : RewritingStop). IsCause g.V.Version.seen g.V.Key.Ord.cmp path most s map maps stops.directory fault) is stops.cause).0)
    (λ is. (subst (λ (s : RewritingStop). IsCause g.V.Version.seen g.V.Key.Ord.cmp path most s map maps stops.directory fault) is stops.cause).0)
    (subst (λ (events : List Event). MayLeaveDuring events disk left) (append_cancel_left before _ _ stops.calls) may))
