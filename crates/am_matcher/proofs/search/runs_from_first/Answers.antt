use Rattle.std.proofs.Common.{◌∙◌}
use Rattle.am_matcher.specs.Searches.{match_from}
use Rattle.am_matcher.proofs.Searches.{one_place}
use Rattle.am_matcher.proofs.search.runs_from_first.Goals as goal

pub returns-clause-answer : goal.returns-clause-answer
returns-clause-answer c = c.is_match-found.ensures.found ∙ one_place (match_from c.args.nfa.now c.args.text.now) 0
