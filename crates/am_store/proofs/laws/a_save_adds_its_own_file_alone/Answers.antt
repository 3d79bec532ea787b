use Rattle.std.proofs.Common.{◌≡◌, ◌⊎◌, inl, inr, List, ℕ, Option, Some, refl, subst}
use Rattle.std.proofs.lemmas.List.{append_cancel_left}
use Rattle.am_snapshot.specs.Encodings.{row_encoding}
use Rattle.am_store.specs.Calls.{Event}
use Rattle.am_store.specs.Crashes.{Remains, MayLeave, MayLeaveDuring, bytes_at}
use Rattle.am_store.proofs.Crashes.{is_saved, is_stopped, right_after}
use Rattle.am_store.proofs.laws.a_save_adds_its_own_file_alone.Goals as goal

pub returns-clause-saved : goal.returns-clause-saved
returns-clause-saved g c = λ path map before calls disk left save may.
    is_saved path (row_encoding g.V.Version.seen map)
    (λ (found there log : Option (List ℕ)). (found ≡ Some (row_encoding g.V.Version.seen map)) ⊎ ((earlier : Remains) × MayLeave disk earlier × (bytes_at earlier path ≡ found)))
    (λ found there log is. inl refl) left save.stood save.directory disk
    (λ l m. inr (l, m, refl))
    (subst (λ (events : List Event). MayLeaveDuring events disk left) (append_cancel_left before _ _ save.calls) may)

pub returns-clause-stopped : goal.returns-clause-stopped
returns-clause-stopped g c = λ path map most before calls fault disk left save may.
    is_stopped path (row_encoding g.V.Version.seen map)
    (λ (found there log : Option (List ℕ)). (found ≡ Some (row_encoding g.V.Version.seen map)) ⊎ ((earlier : Remains) × MayLeave disk earlier × (bytes_at earlier path ≡ found)))
    (λ found there log is. inl refl) left save.stop save.stood save.removed disk
    (λ l m. inr (l, m, refl))
    (subst (λ (events : List Event). MayLeaveDuring events disk left) (append_cancel_left before _ _ save.calls) may)

pub returns-clause-right_after : goal.returns-clause-right_after
returns-clause-right_after g c = right_after
