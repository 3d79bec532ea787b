use Rattle.std.proofs.Common.{◌≡◌, map, flat_map, filter, take}
use Rattle.am_matcher.specs.Buckets.{is_at}
use Rattle.am_matcher.proofs.gathering.gather.Given as goal

abbrev pub invariant-loop-bucket : goal.invariant-loop-bucket
invariant-loop-bucket l = map (λ m. m.now) l.found.items ≡ flat_map (λ b. filter (is_at b) l.held) (take l.bucket-index l.buckets)
