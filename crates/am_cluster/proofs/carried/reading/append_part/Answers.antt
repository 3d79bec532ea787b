use Rattle.std.proofs.Common.{◌≡◌, ◌++◌, map, is_none, OnOk, IfOk, sym, subst}
use Rattle.am_instance.proofs.Lifts.{silence_rows, log_rows, silence_fault, log_fault}
use Rattle.am_cluster.specs.Contents.{delivery_of}
use Rattle.am_cluster.proofs.carried.reading.append_part.Goals as goal

pub returns-in-Sil-clause-added : goal.returns-in-Sil-clause-added
returns-in-Sil-clause-added c =
    subst (λ ds. OnOk c.append_row.result (map delivery_of c.append_row.new.versions.items ≡ map delivery_of c.args.versions.now.items ++ ds))
    (sym (silence_rows c.args.unknown c.args.part.now c.in-Sil.is)) (rw c.as_slice-row.ensures at c.append_row.ensures.added)

pub returns-in-Sil-clause-sound : goal.returns-in-Sil-clause-sound
returns-in-Sil-clause-sound c =
    subst (λ fault. IfOk c.append_row.result (λ sound. sound ≡ is_none fault))
    (sym (silence_fault c.args.unknown c.args.part.now c.in-Sil.is)) (rw c.as_slice-row.ensures at c.append_row.ensures.sound)

pub returns-in-Nfl-clause-added : goal.returns-in-Nfl-clause-added
returns-in-Nfl-clause-added c =
    subst (λ ds. OnOk c.append_row-in-Nfl.result (map delivery_of c.append_row-in-Nfl.new.versions.items ≡ map delivery_of c.args.versions.now.items ++ ds))
    (sym (log_rows c.args.unknown c.args.part.now c.in-Nfl.is)) (rw c.as_slice-row.ensures at c.append_row-in-Nfl.ensures.added)

pub returns-in-Nfl-clause-sound : goal.returns-in-Nfl-clause-sound
returns-in-Nfl-clause-sound c =
    subst (λ fault. IfOk c.append_row-in-Nfl.result (λ sound. sound ≡ is_none fault))
    (sym (log_fault c.args.unknown c.args.part.now c.in-Nfl.is)) (rw c.as_slice-row.ensures at c.append_row-in-Nfl.ensures.sound)
