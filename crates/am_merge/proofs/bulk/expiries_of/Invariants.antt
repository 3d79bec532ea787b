use Rattle.std.proofs.Common.{◌≡◌, ◌++◌, map}
use Rattle.slab.specs.Slab.{entries}
use Rattle.am_merge.specs.Entries.{expiry_entry}
use Rattle.am_merge.proofs.bulk.expiries_of.Given as goal

abbrev pub invariant-loop-slot : goal.invariant-loop-slot
invariant-loop-slot g l = l.list.items ++ map (λ there. expiry_entry g.V.Version.seen there.0 there) l.slot-iterator ≡ map (λ there. expiry_entry g.V.Version.seen there.0 there) (entries l.fn.table)
