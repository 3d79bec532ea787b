use Rattle.std.proofs.Common.{◌≡◌, find}
use Rattle.am_silence.specs.Matchers.{wants_label}
use Rattle.am_silence.proofs.Buckets.{GoesOn}
use Rattle.am_silence.proofs.bucket.first_wanting.Given as goal

abbrev pub invariant-loop-matcher : goal.invariant-loop-matcher
invariant-loop-matcher l = record {
  found : find wants_label l.fn.matchers ≡ find wants_label l.rest;
  goes_on : GoesOn l.fn.matchers l.rest l.at;
}
