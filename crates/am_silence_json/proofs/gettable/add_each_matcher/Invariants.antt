use Rattle.std.proofs.Common.{◌≡◌, ◌++◌, map}
use Rattle.am_silence_json.specs.Gettables.{matcher_data}
use Rattle.am_silence_json.specs.Tokens.{row_tokens}
use Rattle.am_silence_json.proofs.gettable.add_each_matcher.Given as goal

-- with the matchers that are left, all are added
abbrev pub invariant-loop-matcher : goal.invariant-loop-matcher
invariant-loop-matcher l = record {
  before : l.out.before ≡ l.initial.out.before;
  tokens : l.out.tokens ++ row_tokens (map matcher_data l.matcher-iterator) ≡ l.initial.out.tokens ++ row_tokens (map matcher_data l.fn.matchers);
}
