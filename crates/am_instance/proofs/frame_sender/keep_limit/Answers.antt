use Rattle.std.proofs.Common.{sym, arith}
use Rattle.std.proofs.Math.Nat.{lt_of_not-le}
use Rattle.am_gossip.proofs.Limits.{states_over}
use Rattle.am_silence.specs.Mesh.{mesh_version}
use Rattle.am_nflog.specs.Mesh.{mesh_version as entry_version}
use Rattle.am_snapshot.specs.Encodings.{row_encoding}
use Rattle.am_instance.proofs.frame_sender.keep_limit.Goals as goal

pub returns-in_default : goal.returns-in_default
returns-in_default c =
    let many = lt_of_not-le c.in_default.ensures.length in
    sym (states_over (row_encoding mesh_version c.args.silences.now) (row_encoding entry_version c.args.log.now) 67_108_864 (omega (arith, many)))

pub returns-in_default-row_length : goal.returns-in_default-row_length
returns-in_default-row_length c =
    let many = lt_of_not-le c.in_default-row_length.ensures.length in
    sym (states_over (row_encoding mesh_version c.args.silences.now) (row_encoding entry_version c.args.log.now) 67_108_864 (omega (arith, many)))
