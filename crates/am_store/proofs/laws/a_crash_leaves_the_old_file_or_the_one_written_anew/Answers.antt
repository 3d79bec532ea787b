use Rattle.std.specs.Prelude.{⊤}
use Rattle.std.proofs.Common.{◌≡◌, inl, inr, ⊎_elim, List, subst}
use Rattle.std.proofs.lemmas.List.{append_cancel_left}
use Rattle.am_store.specs.Calls.{Event}
use Rattle.am_store.specs.Crashes.{Runs, MayLeaveDuring}
use Rattle.am_store.proofs.RewriteCrashes.{is_rewriting_done, is_rewritten, leaves_whole}
use Rattle.am_store.proofs.laws.a_crash_leaves_the_old_file_or_the_one_written_anew.Goals as goal

pub returns-clause-rewritten : goal.returns-clause-rewritten
returns-clause-rewritten g c = λ path most maps old before calls disk left keeps anew may.
    ⊎_elim (λ was. inl was) (λ new. inr new.0)
    (is_rewritten path disk left (λ found there log. found ≡ old) (λ there log. ⊤) (λ found there log is. tt) (λ there log is. tt) keeps (λ found there log is. is)
    anew.row anew.stood anew.ended anew.directory (subst (λ (events : List Event). MayLeaveDuring events disk left) (append_cancel_left before _ _ anew.calls) may))

pub returns-clause-stopped : goal.returns-clause-stopped
returns-clause-stopped g c = λ path most map maps old before calls fault disk left keeps stops may.
    ⊎_elim (λ was. inl was) (λ new. inr (new.0, new.1))
    (leaves_whole path disk left (λ found there log. found ≡ old) (λ there log. ⊤) (λ found there log is. tt) (λ there log is. tt) keeps (λ found there log is. is)
    stops.row stops.place stops.stood stops.removed stops.ended stops.directory stops.stop stops.whole
    (subst (λ (events : List Event). MayLeaveDuring events disk left) (append_cancel_left before _ _ stops.calls) may))

pub returns-clause-done : goal.returns-clause-done
returns-clause-done g c = λ path most maps before calls disk new its anew runs.
    is_rewriting_done path anew.row disk its anew.stood anew.ended anew.directory new anew.standing
    (subst (λ (events : List Event). Runs events disk new) (append_cancel_left before _ _ anew.calls) runs)
