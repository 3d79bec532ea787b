use Rattle.std.proofs.Common.{◌∙◌, ap, sym, true}
use Rattle.am_cluster.specs.DurableTests.{durable_from}
use Rattle.am_cluster.proofs.DurableTold.{durable_told}
use Rattle.am_cluster.proofs.durable.is_durable.Goals as goal

pub returns : goal.returns
returns g c =
    let told = durable_told g.V.Version.seen c.args.member c.args.run.now.steps in
    let same = c.starts_saved.ensures ∙ ap (durable_from g.V.Version.seen c.args.member true) c.steps.ensures in
    (λ t. told.0 (sym same ∙ t), λ durable. same ∙ told.1 durable)
