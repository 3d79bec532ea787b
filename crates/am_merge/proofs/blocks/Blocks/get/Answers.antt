use Rattle.am_merge.proofs.Joined.{item_read}
use Rattle.am_merge.proofs.blocks.Blocks.get.Goals as goal

pub returns : goal.returns
returns g c =
    rw (← c.self.view_is)
    (item_read c.self.inside.blocks.items c.args.cursor.block c.args.cursor.offset c.index.result.now c.as_slice.result.now c.index-as_slice-cursor.result (rw (← c.self.view_is) at c.requires.offset) c.index.ensures c.as_slice.ensures c.index-as_slice-cursor.is)
