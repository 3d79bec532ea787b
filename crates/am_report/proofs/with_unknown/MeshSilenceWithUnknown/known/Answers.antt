use Rattle.std.proofs.Common.{◌≡◌, Ok}
use Rattle.std.proofs.lemmas.Result.{IfOk-weaker}
use Rattle.am_wire.specs.declared.unknown.Unknown.TheVariants.{Drop}
use Rattle.am_silence.specs.Mesh.{Mesh, without_unknown}
use Rattle.am_silence.specs.MeshTable.{reads_mesh_silence}
use Rattle.am_report.proofs.Unknown.{silence_known}
use Rattle.am_report.proofs.with_unknown.MeshSilenceWithUnknown.known.Goals as goal

pub returns : goal.returns
returns c =
    IfOk-weaker c.read_known.result (λ (known : Mesh). reads_mesh_silence Drop 0 c.canonical.result.now ≡ Ok known) (λ (known : Mesh). known ≡ without_unknown c.args.self.now)
    (λ known read. silence_known c.args.self.now known c.canonical.result.now c.canonical.ensures.value c.canonical.ensures.content read) c.read_known.ensures
