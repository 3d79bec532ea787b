use Rattle.std.proofs.Common.{◌≤◌, length, subst}
use Rattle.std.specs.Prelude.{All}
use Rattle.am_wire.specs.Limits.{most}
use Rattle.am_silence.specs.Mesh.{IsMesh, mesh_version}
use Rattle.am_nflog.specs.Mesh.{IsMesh as IsLogMesh, mesh_version as entry_version}
use Rattle.am_snapshot.specs.Encodings.{row_encoding}
use Rattle.am_cluster.proofs.Lent.{silences_whole, log_whole}
use Rattle.am_cluster.proofs.settle.frame_of.Goals as goal

pub returns-clause-silences : goal.returns-clause-silences
returns-clause-silences c = λ unknown.
    c.what_keeps_its_limit_is_readable.ensures.silences unknown c.args.instance.now.silences
    (subst (All IsMesh) c.silences.ensures c.has_values.ensures.values) (silences_whole c.args.instance.now unknown c.requires.drops c.requires.whole)
    (subst (λ vs. length (row_encoding mesh_version vs) ≤ most) c.silences-2.ensures c.in_ok-state.ensures.silences_fit)

pub returns-clause-log : goal.returns-clause-log
returns-clause-log c = λ unknown.
    c.what_keeps_its_limit_is_readable.ensures.log unknown c.args.instance.now.log
    (subst (All IsLogMesh) c.log.ensures c.has_values-2.ensures.values) (log_whole c.args.instance.now unknown c.requires.drops c.requires.whole)
    (subst (λ es. length (row_encoding entry_version es) ≤ most) c.log-2.ensures c.in_ok-state.ensures.log_fit)
