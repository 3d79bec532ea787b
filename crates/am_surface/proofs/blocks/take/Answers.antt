use Rattle.std.proofs.Common.{◌<◌}
use Rattle.std.proofs.lemmas.List.Quantifiers.{all_pairs_remove}
use Rattle.am_merge.specs.Rows.{entries}
use Rattle.am_merge.specs.Cursors.{place}
use Rattle.am_merge.proofs.Places.{place_of_item}
use Rattle.am_surface.proofs.blocks.take.Goals as goal

pub returns-in-Ok : goal.returns-in-Ok
returns-in-Ok c =
    rw c.remove.ensures.items (all_pairs_remove (λ x y. x < y) (entries c.args.blocks.now) (place c.args.blocks.now c.in-Ok.cursor) (place_of_item c.args.blocks.now c.in-Ok.cursor c.in-Ok.ensures.found.item) c.requires)
