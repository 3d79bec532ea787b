use Rattle.std.proofs.Common.{◌≡◌, length}
use Rattle.std.specs.Ordering.{nat_cmp}
use Rattle.std.specs.Cmp.Lexicographic.{slice_cmp}
use Rattle.am_nflog.proofs.Orders.{Bytes}
use Rattle.am_nflog.proofs.order.compare_bytes.Given as goal

abbrev pub invariant-loop-word : goal.invariant-loop-word
invariant-loop-word l =
    record {
      same : slice_cmp nat_cmp l.left l.right ≡ slice_cmp nat_cmp l.fn.a l.fn.b;
      left : Bytes l.left;
      right : Bytes l.right;
    }

abbrev pub decreases-loop-word : goal.decreases-loop-word
decreases-loop-word l = length l.left
