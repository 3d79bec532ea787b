use Rattle.std.proofs.Common.{◌≡◌, take, fold}
use Rattle.am_merge.specs.Buckets.{numbered}
use Rattle.am_merge.proofs.entry.bucket_number.Given as goal

abbrev pub invariant-loop-byte : goal.invariant-loop-byte
invariant-loop-byte l = l.number ≡ fold numbered 0 (take l.byte-index l.bucket)
