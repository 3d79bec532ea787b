use Rattle.std.proofs.Common.{rules}
use Rattle.std.specs.Ordering.{nat_cmp}
use Rattle.std.specs.Cmp.Lexicographic.{slice_cmp}
use Rattle.std.proofs.lemmas.Fn.{always_returns_same}
use Rattle.am_matcher.specs.declared.entries.CacheEntry.{CacheEntry}
use Rattle.am_matcher.proofs.Keepings.{searched}
use Rattle.am_matcher.proofs.entries.place_of.Goals as goal

pub returns : goal.returns
returns c =
    let facts = c.binary_search_by.ensures in
    let by_text = facts.position (λ (e : CacheEntry). slice_cmp nat_cmp e.kept.text c.args.text.now) (always_returns_same _ _ _ (λ a r f called. search rules)) in
    let place = searched c.args.text.now c.args.entries.now c.binary_search_by.result facts.bound by_text in
    record { found = place.found; inside = place.inside; within = place.within }
