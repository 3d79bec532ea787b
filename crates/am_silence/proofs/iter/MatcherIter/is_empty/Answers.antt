use Rattle.std.proofs.Common.{List, eqb, length, ap, ◌∙◌}
use Rattle.am_silence.specs.declared.matcher.Matcher.{Matcher}
use Rattle.am_silence.proofs.MatcherTexts.{empty_tells}
use Rattle.am_silence.proofs.iter.MatcherIter.is_empty.Goals as goal

pub returns : goal.returns
returns c = c.is_empty.ensures ∙ empty_tells c.self.inside.rest.now c.self.invariant ∙ ap (λ (ms : List Matcher). eqb (length ms) 0) c.self.view_is
