use Rattle.std.proofs.Common.{◌<◌, List, length}
use Rattle.std.proofs.lemmas.List.Elements.{All-rest}
use Rattle.am_merge.proofs.blocks.walk.WalkIterator.next.Goals as goal

pub invariant_of-self-2 : goal.invariant_of-self-2
invariant_of-self-2 g c =
    All-rest (λ (block : List g.row.T.Denot). (0 < length block) × (length block < 128)) c.in_ok-block.block.now c.in_ok-block.blocks.now c.self.inside.blocks.now c.in_ok-block.ensures.cases.0 c.self.invariant
