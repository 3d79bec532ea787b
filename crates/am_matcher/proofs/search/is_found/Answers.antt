use Rattle.std.proofs.Common.{None, is_some, ap, sym, ◌∙◌}
use Rattle.std.specs.Prelude.{if◌then◌else◌}
use Rattle.am_matcher.specs.Searches.{match_from}
use Rattle.am_matcher.proofs.Searches.{found_first}
use Rattle.am_matcher.proofs.search.is_found.Goals as goal

pub returns-in_ok-found-clause-answer : goal.returns-in_ok-found-clause-answer
returns-in_ok-found-clause-answer c =
    c.in_ok-found.ensures.answer
    ∙ ap (λ b. is_some (if b then match_from c.args.dfa.now.nfa c.args.text.now 0 else None)) (sym c.if-begins_character.true ∙ c.begins_character.ensures)
    ∙ found_first c.args.dfa.now.nfa c.args.text.now c.requires.first

pub returns-else-begins_character-clause-answer : goal.returns-else-begins_character-clause-answer
returns-else-begins_character-clause-answer c =
    ap (λ b. is_some (if b then match_from c.args.dfa.now.nfa c.args.text.now 0 else None)) (sym c.if-begins_character.false ∙ c.begins_character.ensures)
    ∙ found_first c.args.dfa.now.nfa c.args.text.now c.requires.first
