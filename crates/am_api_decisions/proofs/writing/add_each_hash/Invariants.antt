use Rattle.std.proofs.Common.{◌≡◌, ◌++◌, map}
use Rattle.am_silence_json.specs.Tokens.{row_tokens}
use Rattle.am_api_decisions.specs.Hashes.{hash_data}
use Rattle.am_api_decisions.proofs.writing.add_each_hash.Given as goal

-- with the hashes that are left, all are added
abbrev pub invariant-loop-hash : goal.invariant-loop-hash
invariant-loop-hash l = record {
  before : l.out.before ≡ l.initial.out.before;
  tokens : l.out.tokens ++ row_tokens (map hash_data l.hash-iterator) ≡ l.initial.out.tokens ++ row_tokens (map hash_data l.fn.hashes);
}
