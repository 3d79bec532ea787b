use Rattle.std.proofs.Common.{◌≡◌, ◌+◌, ◌-◌, ◌^◌, length, List, ℕ}
use Rattle.std.specs.Io.KnownBytes.{Consumes}
use Rattle.am_store.proofs.batches.skip_rest.Given as goal

abbrev pub invariant-loop-behind : goal.invariant-loop-behind
invariant-loop-behind g l = (bytes : List ℕ) × Consumes (g.R.Read.remaining l.fn.reader) (g.R.Read.remaining l.reader) bytes × (l.behind ≡ l.read + length bytes)

abbrev pub decreases-loop-behind : goal.decreases-loop-behind
decreases-loop-behind g l = 2 ^ 62 - l.behind
