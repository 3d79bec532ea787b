use Rattle.std.proofs.Common.{◌≡◌, ℕ, true, take}
use Rattle.std.specs.List.{list_all}
use Rattle.am_dedup.proofs.Sets.{is_among}
use Rattle.am_dedup.proofs.decision.is_within.Given as goal

abbrev pub invariant-loop-count : goal.invariant-loop-count
invariant-loop-count l = record {
  rest : (hash : ℕ) → is_among l.rest hash ≡ true → is_among l.listed hash ≡ true;
  found : list_all (is_among l.listed) (take l.count l.hashes) ≡ true;
}
