use Rattle.std.proofs.Common.{◌≡◌, take}
use Rattle.am_matcher.specs.Buckets.{buckets_for}
use Rattle.am_matcher.proofs.gathering.buckets_for.Given as goal

abbrev pub invariant-loop-label : goal.invariant-loop-label
invariant-loop-label l = l.buckets.items ≡ buckets_for (take l.label-index l.labels)
