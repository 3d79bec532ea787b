use Rattle.am_matcher.proofs.HandedOn.{handed_on}
use Rattle.am_matcher.proofs.whole.Whole.build.Goals as goal

pub returns-in_err-dfa-clause-broken : goal.returns-in_err-dfa-clause-broken
returns-in_err-dfa-clause-broken c bad = c.in_err-dfa.ensures.broken (handed_on c.from_residual.result c.in_err-dfa.field-0.0 _ c.from_residual.ensures.1 bad)
