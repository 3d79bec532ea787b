use Rattle.std.proofs.Common.{◌∙◌, sym}
use Rattle.am_merge.proofs.Joined.{removed, removed_all}
use Rattle.am_merge.proofs.blocks.parts.take_out.Goals as goal

pub returns-then-len-capacity-clause-items : goal.returns-then-len-capacity-clause-items
returns-then-len-capacity-clause-items g c =
    removed_all c.args.blocks.now.items c.remove-empty.new.self.items c.args.cursor.block c.args.cursor.offset c.index_mut-block.result.now c.remove.new.self c.requires.offset c.index_mut-block.ensures.value c.remove.ensures (sym c.len.ensures ∙ c.if-len-eq0.true) c.remove-empty.ensures.items

pub returns-else-len-capacity-clause-items : goal.returns-else-len-capacity-clause-items
returns-else-len-capacity-clause-items g c =
    removed_all c.args.blocks.now.items c.remove-empty.new.self.items c.args.cursor.block c.args.cursor.offset c.index_mut-block.result.now c.remove.new.self c.requires.offset c.index_mut-block.ensures.value c.remove.ensures (sym c.len.ensures ∙ c.if-len-eq0.true) c.remove-empty.ensures.items

pub returns-else-len-eq0-clause-items : goal.returns-else-len-eq0-clause-items
returns-else-len-eq0-clause-items g c =
    removed c.args.blocks.now.items c.args.cursor.block c.args.cursor.offset c.index_mut-block.result.now c.remove.new.self c.requires.offset c.index_mut-block.ensures.value c.remove.ensures
