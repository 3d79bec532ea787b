use Rattle.std.proofs.Common.{◌≡◌}
use Rattle.std.proofs.lemmas.Result.{IfOk-weaker}
use Rattle.am_wire.specs.declared.unknown.UnknownFields.{UnknownFields}
use Rattle.am_report.proofs.Unknown.{fields_of_silence, silence_unknown}
use Rattle.am_report.proofs.with_unknown.MeshSilenceWithUnknown.unknown.Goals as goal

pub returns : goal.returns
returns c =
    IfOk-weaker c.of.result (λ (fields : UnknownFields). fields ≡ fields_of_silence c.canonical.result.now) (λ (fields : UnknownFields). fields ≡ c.args.self.now.unknown)
    (λ fields is. silence_unknown c.args.self.now c.canonical.result.now fields c.canonical.ensures.value c.canonical.ensures.content is) c.of.ensures
