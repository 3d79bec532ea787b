use Rattle.std.proofs.Common.{◌≡◌, ◌+◌, drop}
use Rattle.am_version_order.specs.Heads.{weighed, weights, head_of_text}
use Rattle.am_version_order.proofs.heads.head_of_text.Given as goal

abbrev pub invariant-loop-place : goal.invariant-loop-place
invariant-loop-place l = l.head + weighed (drop l.place weights) (drop l.place l.bytes) ≡ head_of_text l.bytes
