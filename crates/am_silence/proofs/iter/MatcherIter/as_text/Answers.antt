use Rattle.std.proofs.Common.{subst}
use Rattle.std.specs.Prelude.{All}
use Rattle.am_silence.specs.Matchers.{IsMatcher}
use Rattle.am_silence.proofs.iter.MatcherIter.as_text.Goals as goal

pub returns-clause-values : goal.returns-clause-values
returns-clause-values c = subst (All IsMatcher) c.self.view_is c.self.invariant.values
