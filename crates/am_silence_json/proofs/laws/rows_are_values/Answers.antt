use Rattle.std.proofs.Common.{All, subst, arith}
use Rattle.std.proofs.lemmas.List.{take_all}
use Rattle.std.proofs.lemmas.List.Elements.{All-more}
use Rattle.am_silence.specs.Mesh.{Mesh, IsMesh}
use Rattle.am_silence.specs.declared.state.State.{State}
use Rattle.am_silence_json.proofs.laws.rows_are_values.Goals as goal

abbrev IsValue : Mesh × State → Type 0
IsValue row = IsMesh row.0

pub loop-version-preserved : goal.loop-version-preserved
loop-version-preserved c =
    All-more IsValue c.args.rows.now c.loop-version.version-index c.loop-version-item.result c.loop-version-test.true c.loop-version.invariant
    (subst IsValue c.loop-version-item.is c.canonical-content.ensures.value)

pub returns : goal.returns
returns c = subst (All IsValue) (take_all c.loop-version.version-index c.args.rows.now (omega (arith, c.loop-version-test.false))) c.loop-version.invariant
