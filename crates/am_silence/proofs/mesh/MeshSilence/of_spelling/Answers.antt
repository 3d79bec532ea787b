use Rattle.std.proofs.Common.{subst, sym, ◌∙◌}
use Rattle.std.proofs.lemmas.Result.{err_from_is_err_and}
use Rattle.am_wire.specs.Expiring.{expiring_tests, expiring_value}
use Rattle.am_wire.specs.Unknown.{IsUnknown}
use Rattle.am_wire.proofs.ExpiringKept.{kept_unknown}
use Rattle.am_wire.proofs.Judging.{same_fault}
use Rattle.am_silence.specs.Mesh.{silence_numbers}
use Rattle.am_silence.specs.MeshTable.{reads_mesh_silence}
use Rattle.am_silence.specs.Silences.{silence, silence_tests, silence_value}
use Rattle.am_silence.proofs.mesh.MeshSilence.of_spelling.Goals as goal

pub returns-in_err-fields : goal.returns-in_err-fields
unfolding reads_mesh_silence
returns-in_err-fields c =
    let p = err_from_is_err_and c.from_residual.result c.from_residual.ensures.1 in
    rw (p.1, p.2) (λ other. same_fault _ _ _ _ (c.in_err-fields.ensures other))

pub of_sized-requires-clause-unknown : goal.of_sized-requires-clause-unknown
of_sized-requires-clause-unknown c =
    subst (IsUnknown silence_numbers) (sym (c.of-unknown.ensures ∙ c.in_ok-unknown.ensures))
    (kept_unknown silence silence_numbers (expiring_tests silence silence_tests) (expiring_value silence silence_value) c.args.unknown c.args.at c.args.at c.args.bytes.now _ c.in_ok-fields.ensures)
