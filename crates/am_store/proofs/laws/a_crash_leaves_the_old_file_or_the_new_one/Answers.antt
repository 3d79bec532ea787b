use Rattle.std.proofs.Common.{◌≡◌, ◌⊎◌, inl, inr, List, ℕ, Option, Some, refl, subst}
use Rattle.std.proofs.lemmas.List.{append_cancel_left}
use Rattle.am_snapshot.specs.Encodings.{row_encoding}
use Rattle.am_store.specs.Calls.{Event}
use Rattle.am_store.specs.Crashes.{Runs, MayLeaveDuring}
use Rattle.am_store.proofs.Crashes.{is_done, is_saved, is_stopped}
use Rattle.am_store.proofs.laws.a_crash_leaves_the_old_file_or_the_new_one.Goals as goal

pub returns-clause-saved : goal.returns-clause-saved
returns-clause-saved g c = λ path map old before calls disk left keeps save may.
    is_saved path (row_encoding g.V.Version.seen map) (λ (found there log : Option (List ℕ)). (found ≡ old) ⊎ (found ≡ Some (row_encoding g.V.Version.seen map))) (λ found there log is. inr refl) left save.stood save.directory disk
    (λ l m. inl (keeps l m))
    (subst (λ (events : List Event). MayLeaveDuring events disk left) (append_cancel_left before _ _ save.calls) may)

pub returns-clause-stopped : goal.returns-clause-stopped
returns-clause-stopped g c = λ path map most old before calls fault disk left keeps save may.
    is_stopped path (row_encoding g.V.Version.seen map) (λ (found there log : Option (List ℕ)). (found ≡ old) ⊎ (found ≡ Some (row_encoding g.V.Version.seen map))) (λ found there log is. inr refl) left save.stop save.stood save.removed disk
    (λ l m. inl (keeps l m))
    (subst (λ (events : List Event). MayLeaveDuring events disk left) (append_cancel_left before _ _ save.calls) may)

pub returns-clause-done : goal.returns-clause-done
returns-clause-done g c = λ path map before calls disk new its save runs.
    is_done path (row_encoding g.V.Version.seen map) save.stood save.directory disk new its save.standing
    (subst (λ (events : List Event). Runs events disk new) (append_cancel_left before _ _ save.calls) runs)
