use Rattle.std.proofs.Common.{◌≡◌, ◌++◌}
use Rattle.std.specs.Slice.Iter.{chunks_rest, chunks_size}
use Rattle.am_merge.specs.Rows.{AreSound, joined}
use Rattle.am_merge.proofs.blocks.Blocks.from_slice.Given as goal

abbrev pub invariant-loop-chunk : goal.invariant-loop-chunk
invariant-loop-chunk g l =
    record {
      size : chunks_size l.chunk-iterator ≡ 127;
      sound : AreSound l.blocks.items;
      all : joined l.blocks.items ++ chunks_rest l.chunk-iterator ≡ l.fn.items;
    }
