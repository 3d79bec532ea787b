use Rattle.std.proofs.Common.{◌<◌, length, arith}
use Rattle.am_merge.proofs.Joined.{rest_read}
use Rattle.am_merge.proofs.blocks.Blocks.walk_from.Goals as goal

pub returns : goal.returns
returns g c =
    let most = rw (← c.self.view_is) at c.requires.block in
    let within = rw (← c.self.view_is) at c.requires.offset in
    let inside : c.args.cursor.block < length c.self.inside.blocks.items = omega arith in
    rw (← c.self.view_is)
    (rest_read c.self.inside.blocks.items c.deref.result.now c.args.cursor.block c.args.cursor.offset c.index.result.now c.as_slice.result.now inside within c.index.ensures c.as_slice.ensures c.deref.ensures.value)
