use Rattle.std.proofs.Common.{refl, sym, append-nil}
use Rattle.std.proofs.lemmas.List.{take_all}
use Rattle.am_report.proofs.Named.{holder_more}
use Rattle.am_report.proofs.json_lines.sources.add_holders.Goals as goal

pub loop-cursor-init : goal.loop-cursor-init
loop-cursor-init g c = record { before = refl; tokens = sym (append-nil c.args.out.now.tokens) }

pub loop-cursor-preserved : goal.loop-cursor-preserved
loop-cursor-preserved g c =
    holder_more g.V.Version.seen _ c.args.sides.now c.loop-cursor.cursor-index c.cursor-item.result c.loop-cursor-test.true c.cursor-item.is c.loop-cursor.invariant
    c.in_ok-add_holder.ensures

pub returns : goal.returns
returns g c = rw (take_all c.loop-cursor.cursor-index c.args.sides.now c.loop-cursor-test.false) at c.loop-cursor.invariant
