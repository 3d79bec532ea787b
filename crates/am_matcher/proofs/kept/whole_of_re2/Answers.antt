use Rattle.std.proofs.Common.{inr, sym, subst}
use Rattle.am_matcher.specs.Re2.{IsTranslation}
use Rattle.am_matcher.proofs.kept.whole_of_re2.Goals as goal

pub returns-clause-broken : goal.returns-clause-broken
returns-clause-broken c bad =
    let is : IsTranslation c.args.pattern.now c.as_str.result.now = subst (IsTranslation c.args.pattern.now) (sym c.as_str.ensures.bytes) c.in_ok-written.ensures.translated in
    inr (c.as_str.result.now, is, c.build.ensures.broken bad)
