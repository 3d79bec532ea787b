use Rattle.std.proofs.Common.{rules, ◌≡◌, ◌+◌, ◌-◌, ◌<◌, ◌∙◌, sym, ap, length, get_or, arith}
use Rattle.std.specs.declared.cmp.Ordering.TheVariants.{Greater}
use Rattle.am_merge.specs.declared.blocks.cursor.Cursor.{Cursor}
use Rattle.am_merge.specs.Rows.{entries}
use Rattle.am_merge.specs.Cursors.{place}
use Rattle.am_merge.proofs.Joined.{block_inside}
use Rattle.am_merge.proofs.Gaps.{between, starts, no_more}
use Rattle.am_merge.proofs.blocks.Blocks.gap_behind.Goals as goal
use Rattle.am_merge.proofs.blocks.Blocks.gap_behind.Goals.{in-Some, in-None}

pub returns-then-is_gap : goal.returns-then-is_gap
returns-then-is_gap g c =
    let order = g.P.Probe.order c.args.probe.now in
    let rows = c.args.self.now in
    let cursor = c.args.cursor in
    let inside : cursor.block < length rows.blocks = block_inside rows.blocks cursor.block cursor.offset c.requires.item.offset in
    let inside_block = c.requires.item.offset in
    let next : Cursor = record { block = cursor.block; offset = cursor.offset + 1 } in
    between order rows next c.requires.rising (record { block = omega arith; offset = omega arith })
    (λ d some. let at : place rows next - 1 ≡ place rows cursor = omega arith in ap (λ i. order (get_or (entries rows) i d)) at ∙ c.requires.less d)
    (elim c.match-next.branch [
      | in-Some w ↦ λ d some.
          let greater : order w.in-Some.item ≡ Greater = search rules in
          ap order (starts (entries rows) (place rows next) w.in-Some.item c.next.new.self d (sym c.walk_from.ensures ∙ w.in-Some.ensures.steps)) ∙ greater
      | in-None w ↦ λ d some.
          let none = no_more (entries rows) (place rows next) (sym c.walk_from.ensures ∙ w.in-None.ensures.steps.0) in
          absurd (omega arith)
    ])
