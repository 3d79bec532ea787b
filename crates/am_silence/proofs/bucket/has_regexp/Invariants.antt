use Rattle.std.proofs.Common.{◌≡◌}
use Rattle.std.specs.List.{list_any}
use Rattle.am_silence.specs.Kinds.{is_regexp}
use Rattle.am_silence.proofs.bucket.has_regexp.Given as goal

abbrev pub invariant-loop-matcher : goal.invariant-loop-matcher
invariant-loop-matcher l = list_any (λ m. is_regexp m.kind) l.fn.matchers ≡ list_any (λ m. is_regexp m.kind) l.matcher-iterator
