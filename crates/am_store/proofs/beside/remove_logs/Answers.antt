use Rattle.std.proofs.Common.{rules, true, false}
use Rattle.std.proofs.lemmas.Result.{err_from_is_err_and}
use mathlib.Core.List.{append_assoc}
use Rattle.am_store.specs.Parting.{OwnKept}
use Rattle.am_store.proofs.beside.remove_logs.Goals as goal
use Rattle.am_store.proofs.beside.remove_logs.Goals.{then-branch+in_ok-sync_directory, else-branch}

pub returns-in_err-remove-2-clause-stopped : goal.returns-in_err-remove-2-clause-stopped
returns-in_err-remove-2-clause-stopped g c =
    let p = err_from_is_err_and c.from_residual-in_err-remove-2.result c.from_residual-in_err-remove-2.ensures.1 in
    elim c.if-branch.branch [
      | then-branch+in_ok-sync_directory w ↦
          rw p.1 (OwnKept true, search (rules, append_assoc, c.requires.old, c.requires.own, w.disk-is, w.if-branch.true, w.in_ok-sync_directory.ensures.noted))
      | else-branch w ↦ rw p.1 (OwnKept false, search (rules, append_assoc, c.requires.old, c.requires.own, w.disk-is, w.if-branch.false))
    ]

pub returns-clause-removed : goal.returns-clause-removed
returns-clause-removed g c = elim c.if-branch.branch [
  | then-branch+in_ok-sync_directory w ↦
      (true, c.in_ok-remove-2.field-0, search (rules, append_assoc, c.requires.old, c.requires.own, w.disk-is, w.if-branch.true, w.in_ok-sync_directory.ensures.noted))
  | else-branch w ↦ (false, c.in_ok-remove-2.field-0, search (rules, append_assoc, c.requires.old, c.requires.own, w.disk-is, w.if-branch.false))
]
