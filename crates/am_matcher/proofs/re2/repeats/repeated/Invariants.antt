use Rattle.std.proofs.Common.{◌≡◌, ℕ, List, take, map, AllPairs, ◌≢◌, string_bytes, bytes_eq}
use Rattle.std.specs.List.{list_any}
use Rattle.std.specs.BTreeSet.{contains_text}
use Rattle.am_matcher.proofs.re2.repeats.repeated.Given as goal

abbrev pub invariant-loop-place : goal.invariant-loop-place
invariant-loop-place l = record {
  kept : (bytes : List ℕ) → contains_text l.seen bytes ≡ list_any (λ name. bytes_eq name bytes) (map string_bytes (take l.place l.names));
  apart : AllPairs ◌≢◌ (map string_bytes (take l.place l.names));
}
