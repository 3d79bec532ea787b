use Rattle.std.proofs.Common.{◌<◌, ◌∙◌, sym, ap, length, set, arith, length-set}
use Rattle.am_merge.specs.Rows.{joined}
use Rattle.am_merge.proofs.Joined.{inserted, joined_cut, sound_cut}
use Rattle.am_merge.proofs.blocks.parts.put.Goals as goal

pub returns-then-len-eq-FULL-clause-sound : goal.returns-then-len-eq-FULL-clause-sound
returns-then-len-eq-FULL-clause-sound g c =
    let inside : c.args.cursor.block < length c.args.blocks.now.items = omega arith in
    rw c.cut.ensures.blocks (sound_cut c.args.blocks.now.items c.args.cursor.block c.cut_offset.result c.insert-2.new.self inside c.requires.sound (sym c.len-3.ensures ∙ c.if-len-eq-FULL.true) c.cut_offset.ensures.lower c.cut_offset.ensures.upper)

pub returns-then-len-eq-FULL-clause-items : goal.returns-then-len-eq-FULL-clause-items
returns-then-len-eq-FULL-clause-items g c =
    let inside : c.args.cursor.block < length c.args.blocks.now.items = omega arith in
    let size = length-set c.args.blocks.now.items c.args.cursor.block c.insert-2.new.self in
    ap joined c.cut.ensures.blocks
    ∙ joined_cut (set c.args.blocks.now.items c.args.cursor.block c.insert-2.new.self) c.args.cursor.block c.cut_offset.result (omega arith)
    ∙ inserted c.args.blocks.now.items c.args.cursor.block c.args.cursor.offset c.index_mut-block.result.now c.insert-2.new.self c.args.item inside c.requires.offset c.index_mut-block.ensures.value c.insert-2.ensures

pub returns-else-len-eq-FULL-clause-items : goal.returns-else-len-eq-FULL-clause-items
returns-else-len-eq-FULL-clause-items g c =
    let inside : c.args.cursor.block < length c.args.blocks.now.items = omega arith in
    inserted c.args.blocks.now.items c.args.cursor.block c.args.cursor.offset c.index_mut-block.result.now c.insert-2.new.self c.args.item inside c.requires.offset c.index_mut-block.ensures.value c.insert-2.ensures
