use Rattle.std.proofs.Common.{List, All, Contains, subst}
use Rattle.am_matcher.specs.Sizes.{CompiledPattern}
use Rattle.am_matcher.specs.Entries.{patterns_in}
use Rattle.am_matcher.proofs.cache.PatternCache.drop_unused.Goals as goal

pub returns-clause-kept : goal.returns-clause-kept
returns-clause-kept c = subst (λ (ps : List CompiledPattern). All (Contains ps) (patterns_in c.drop_unused.new.entries.items)) c.self.view_is c.drop_unused.ensures.kept
