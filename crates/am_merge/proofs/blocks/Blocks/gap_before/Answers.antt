use Rattle.std.proofs.Common.{rules, ◌≡◌, ◌-◌, ◌<◌, ◌∙◌, ap, length, take, get_or, arith}
use Rattle.std.specs.declared.cmp.Ordering.TheVariants.{Less}
use Rattle.std.proofs.lemmas.Option.{get_or_from_slice_get}
use Rattle.am_merge.specs.declared.blocks.cursor.Cursor.{Cursor}
use Rattle.am_merge.specs.Rows.{entries, joined}
use Rattle.am_merge.specs.Cursors.{place}
use Rattle.am_merge.proofs.Joined.{block_inside}
use Rattle.am_merge.proofs.Gaps.{between}
use Rattle.am_merge.proofs.blocks.Blocks.gap_before.Goals as goal
use Rattle.am_merge.proofs.blocks.Blocks.gap_before.Goals.{in-Some, in-None}

pub returns-then-is_gap : goal.returns-then-is_gap
returns-then-is_gap g c =
    let order = g.P.Probe.order c.args.probe.now in
    let rows = c.args.self.now in
    let cursor = c.args.cursor in
    let inside : cursor.block < length rows.blocks = block_inside rows.blocks cursor.block cursor.offset c.requires.item.offset in
    let inside_block = c.requires.item.offset in
    between order rows cursor c.requires.rising (record { block = omega arith; offset = omega arith })
    (elim c.match-checked_sub.branch [
      | in-Some w ↦ λ d some.
          let less : order w.get-before.result ≡ Less = search rules in
          let before : Cursor = record { block = cursor.block; offset = w.in-Some.offset } in
          let at : place rows cursor - 1 ≡ place rows before = omega arith in
          ap (λ i. order (get_or (entries rows) i d)) at ∙ ap order (get_or_from_slice_get (entries rows) (place rows before) w.get-before.result d w.get-before.ensures) ∙ less
      | in-None w ↦ λ d some.
          let first : cursor.block ≡ 0 = search rules in
          let none = ap (λ b. length (joined (take b rows.blocks))) first in
          absurd (omega arith)
    ])
    (λ d some. c.requires.greater d)
