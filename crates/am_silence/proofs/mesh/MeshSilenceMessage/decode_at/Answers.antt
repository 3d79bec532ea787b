use Rattle.std.proofs.Common.{◌≡◌, ap, ◌∙◌, arith}
use Rattle.am_silence.specs.Mesh.{IsMesh, without_unknown}
use Rattle.am_silence.specs.MeshTable.{reads_mesh_silence}
use Rattle.am_silence.specs.RoundTrip.{plain_again}
use Rattle.am_silence.proofs.mesh.MeshSilenceMessage.decode_at.Goals as goal

pub returns-in-Some : goal.returns-in-Some
returns-in-Some c =
    let text = rw c.in-Some.is at c.in_ok-version.ensures.text in
    let value : IsMesh c.in-Some.version = rw c.in-Some.is at c.in_ok-version.ensures.value in
    let plain : without_unknown c.in-Some.version ≡ c.in-Some.version = rw c.in-Some.is at c.in_ok-version.ensures.plain in
    let size = value.size in
    ap (reads_mesh_silence c.args.unknown c.args.at) text ∙ plain_again c.args.unknown c.in-Some.version c.args.at value (omega (arith, size)) plain
