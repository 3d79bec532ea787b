use Rattle.std.proofs.Common.{List, All, Contains, filter, ap, sym, subst, arith}
use Rattle.am_matcher.specs.Sizes.{CompiledPattern, size_of_all}
use Rattle.am_matcher.specs.Uses.{is_used_by, TextsPass}
use Rattle.am_matcher.specs.Entries.{patterns_in}
use Rattle.am_matcher.specs.declared.entries.CacheEntry.{CacheEntry}
use Rattle.am_matcher.proofs.Keepings.{marked_stay, none_new, fewer}
use Rattle.am_matcher.proofs.entries.drop_unused.Goals as goal

pub returns-clause-used : goal.returns-clause-used
returns-clause-used c =
    let test = is_used_by c.args.held.now in
    subst (λ (es : List CacheEntry). TextsPass test (patterns_in es)) (sym c.drop_unmarked.ensures) (marked_stay c.mark_used.new.entries.items test c.mark_used.ensures.used)

pub returns-clause-kept : goal.returns-clause-kept
returns-clause-kept c =
    let marked = c.mark_used.new.entries.items in
    subst (λ (es : List CacheEntry). All (Contains (patterns_in c.args.entries.now.items)) (patterns_in es)) (sym c.drop_unmarked.ensures)
    (subst (λ (ps : List CompiledPattern). All (Contains ps) (patterns_in (filter (λ (e : CacheEntry). e.is_used) marked))) c.mark_used.ensures.same (none_new marked))

pub returns-clause-size : goal.returns-clause-size
returns-clause-size c =
    omega (arith, fewer c.mark_used.new.entries.items, ap size_of_all c.mark_used.ensures.same, ap (λ (es : List CacheEntry). size_of_all (patterns_in es)) c.drop_unmarked.ensures)
