use Rattle.std.proofs.Common.{All, subst, arith}
use Rattle.std.proofs.lemmas.List.{take_all}
use Rattle.std.proofs.lemmas.List.Elements.{All-more}
use Rattle.am_version_order.proofs.values.versions_are_values.Goals as goal

pub loop-version-preserved : goal.loop-version-preserved
loop-version-preserved g c =
    All-more g.V.Version.is_value c.args.versions.now c.loop-version.version-index c.version-item.result c.loop-version-test.true c.loop-version.invariant
    (subst g.V.Version.is_value c.version-item.is c.canonical-content.ensures.value)

pub returns : goal.returns
returns g c = subst (All g.V.Version.is_value) (take_all c.loop-version.version-index c.args.versions.now (omega (arith, c.loop-version-test.false))) c.loop-version.invariant
