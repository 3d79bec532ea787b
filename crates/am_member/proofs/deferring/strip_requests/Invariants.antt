use Rattle.std.proofs.Common.{◌≡◌, map}
use Rattle.std.specs.List.{AllWithin}
use Rattle.am_member.specs.Sparing.{quiet}
use Rattle.am_member.proofs.deferring.strip_requests.Given as goal

abbrev pub invariant-loop-frame : goal.invariant-loop-frame
invariant-loop-frame l = record {
  same : map quiet l.frame-items ≡ map quiet l.fn.frames.items;
  quiet : AllWithin (λ frame. quiet frame ≡ frame) l.frame-items 0 l.frame-index;
}
