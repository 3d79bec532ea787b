use Rattle.std.proofs.Common.{subst, sym}
use Rattle.std.proofs.lemmas.Result.{err_from_is_err_and}
use Rattle.am_wire.specs.Expiring.{expiring_tests, expiring_value}
use Rattle.am_wire.specs.Unknown.{IsUnknown}
use Rattle.am_wire.proofs.ExpiringKept.{kept_unknown}
use Rattle.am_wire.proofs.Judging.{same_fault}
use Rattle.am_nflog.specs.Entries.{entry, entry_tests, entry_value}
use Rattle.am_nflog.specs.Mesh.{entry_numbers}
use Rattle.am_nflog.specs.MeshTable.{reads_mesh_entry}
use Rattle.am_nflog.proofs.mesh.MeshEntry.of_spelling.Goals as goal

pub returns-in_err-entry : goal.returns-in_err-entry
unfolding reads_mesh_entry
returns-in_err-entry c =
    let p = err_from_is_err_and c.from_residual.result c.from_residual.ensures.1 in
    rw (p.1, p.2) (λ other. same_fault _ _ _ _ (c.in_err-entry.ensures other))

pub of_sized-requires-clause-unknown : goal.of_sized-requires-clause-unknown
of_sized-requires-clause-unknown c =
    subst (IsUnknown entry_numbers) (sym c.in_ok-unknown.ensures)
    (kept_unknown entry entry_numbers (expiring_tests entry entry_tests) (expiring_value entry entry_value) c.args.unknown c.args.at c.args.at c.args.text.now _ c.in_ok-entry.ensures)
