use Rattle.std.proofs.Common.{◌≡◌, ◌∙◌, ◌<◌, false, length, get_or, refl, arith}
use Rattle.std.proofs.Math.Seq.{map-set_same}
use Rattle.std.proofs.lemmas.List.Elements.{AllWithin-more_set}
use Rattle.am_matcher.specs.declared.entries.CacheEntry.{CacheEntry}
use Rattle.am_matcher.proofs.entries.unmark_all.Goals as goal

pub loop-entry-preserved : goal.loop-entry-preserved
loop-entry-preserved c =
    let items = c.loop-entry.entry-items in
    let i = c.loop-entry.entry-index in
    let e : CacheEntry = record { kept = (get_or items i c.entry-item.result).kept; is_used = false } in
    let inside : i < length items = omega (arith, c.loop-entry-test.true, c.loop-entry.auto.entry-items) in record {
      same = map-set_same (λ (x : CacheEntry). x.kept) items i e c.entry-item.result refl ∙ c.loop-entry.invariant.same;
      none = AllWithin-more_set items i e inside (λ (x : CacheEntry). x.is_used ≡ false) c.loop-entry.invariant.none refl;
    }
