use Rattle.std.proofs.Common.{◌≡◌, ◌+◌, ◌<◌, [], List, set, length, arith, rules, Some}
use Rattle.std.specs.List.{insert}
use Rattle.std.proofs.lemmas.List.Elements.{All-pop}
use Rattle.am_merge.proofs.Joined.{cut_made}
use Rattle.am_merge.proofs.blocks.parts.cut.Goals as goal

pub returns-clause-blocks : goal.returns-clause-blocks
returns-clause-blocks g c =
    let inside : c.args.block < length c.args.blocks.now.items = omega arith in
    let made : c.insert-inserted.new.self.items ≡ insert (set c.args.blocks.now.items c.args.block c.cut.new.self) (c.args.block + 1) c.cut.new.upper = search rules in
    rw made (cut_made c.args.blocks.now.items c.args.block c.args.offset c.index_mut-lower.result.now c.cut.new.self c.cut.new.upper inside c.index_mut-lower.ensures.value c.cut.ensures.lower c.cut.ensures.upper)

pub returns-clause-empty : goal.returns-clause-empty
returns-clause-empty g c =
    (All-pop (λ (block : List g.row.T.Denot). block ≡ []) c.args.spares.now.items c.take_last-upper.new.self.items (Some c.take_last-upper.result) c.take_last-upper.ensures.items c.requires.empty).0
