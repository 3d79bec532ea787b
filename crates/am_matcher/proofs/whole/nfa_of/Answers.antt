use Rattle.regex_hir.specs.Meaning.{meaning}
use Rattle.am_matcher.proofs.Searches.{begins_first}
use Rattle.am_matcher.proofs.whole.nfa_of.Goals as goal

pub returns-clause-first : goal.returns-clause-first
returns-clause-first c = begins_first c.in_ok-nfa.nfa (meaning c.args.parsed.now.hir) c.in_ok-nfa.ensures.matches (c.is_anchored_start.ensures.anchored c.if-not-is_anchored_start.false)
