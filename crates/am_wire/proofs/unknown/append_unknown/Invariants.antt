use Rattle.std.proofs.Common.{◌≡◌, ℕ, ◌≤◌, ◌++◌, length}
use Rattle.am_wire.specs.Unknown.{unknown_in}
use Rattle.am_wire.proofs.Kept.{unknown_from}
use Rattle.am_wire.proofs.unknown.append_unknown.Given as goal

abbrev pub invariant-loop-field : goal.invariant-loop-field
invariant-loop-field l =
    (place : ℕ) × (length l.rest ≤ length l.bytes)
    × (l.out.items ++ unknown_from l.known place l.rest ≡ l.initial.out.items ++ unknown_in l.known l.bytes)

abbrev pub decreases-loop-field : goal.decreases-loop-field
decreases-loop-field l = length l.rest
