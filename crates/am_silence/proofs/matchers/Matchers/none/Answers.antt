use Rattle.std.proofs.Common.{ap, subst, sym, ◌∙◌}
use Rattle.am_silence.specs.MatcherTexts.{matchers_in, IsMatchersText}
use Rattle.am_silence.proofs.MatcherTexts.{nothing, spells_none}
use Rattle.am_silence.proofs.matchers.Matchers.none.Goals as goal

pub invariant_of-result : goal.invariant_of-result
invariant_of-result c = subst IsMatchersText (sym c.new.ensures.items) nothing

pub returns : goal.returns
returns c = ap matchers_in c.new.ensures.items ∙ spells_none
