use Rattle.std.proofs.Common.{true, ap}
use Rattle.std.proofs.Math.Seq.{map-set_same}
use Rattle.am_matcher.specs.declared.entries.CacheEntry.{CacheEntry}
use Rattle.am_matcher.proofs.entries.mark.Goals as goal

pub returns-clause-same : goal.returns-clause-same
returns-clause-same c =
    let old = c.index_mut-entry.result.now in
    map-set_same (λ (e : CacheEntry). e.kept) c.args.entries.now.items c.in-Ok.place (record { kept = old.kept; is_used = true }) old (ap (λ (e : CacheEntry). e.kept) c.index_mut-entry.ensures.value)
