use Rattle.std.proofs.Common.{sym, subst}
use Rattle.am_matcher.specs.declared.dialect.Dialect.{Dialect}
use Rattle.am_matcher.specs.Dialects.{IsBrokenIn}
use Rattle.am_matcher.proofs.Meant.{broken_in_regex}
use Rattle.am_matcher.proofs.kept.whole_of.Goals as goal

pub returns-in-Regex-clause-broken : goal.returns-in-Regex-clause-broken
returns-in-Regex-clause-broken c bad =
    let pattern = c.args.pattern.now in
    subst (λ (d : Dialect). IsBrokenIn d pattern) (sym c.in-Regex.is) (broken_in_regex pattern (c.build.ensures.broken bad))
