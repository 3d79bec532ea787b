use Rattle.std.proofs.Common.{◌≡◌, ◌++◌, map, filter}
use Rattle.am_matcher.specs.Buckets.{is_at}
use Rattle.am_matcher.proofs.gathering.push_bucket.Given as goal

abbrev pub invariant-loop-silence : goal.invariant-loop-silence
invariant-loop-silence l = map (λ m. m.now) l.silences.items ++ l.silence-iterator ≡ map (λ m. m.now) l.fn.silences.items ++ filter (is_at l.bucket) l.held
