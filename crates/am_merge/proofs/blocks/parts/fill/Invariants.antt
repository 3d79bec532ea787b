use Rattle.std.proofs.Common.{◌≡◌, vec_len}
use Rattle.am_merge.specs.Rows.{AreEmpty}
use Rattle.am_merge.proofs.blocks.parts.fill.Given as goal

abbrev pub invariant-loop-made : goal.invariant-loop-made
invariant-loop-made g l = record {
  empty : AreEmpty l.spares.items;
  made : vec_len l.spares ≡ l._made;
}
