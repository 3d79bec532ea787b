use Rattle.std.proofs.Common.{◌≡◌, ◌∙◌, ap, is_some, rules}
use Rattle.regex_dfa.specs.declared.dfa.Dfa.{Dfa}
use Rattle.am_matcher.specs.Patterns.{is_match}
use Rattle.am_matcher.specs.Searches.{found_by}
use Rattle.am_matcher.specs.Sizes.{Compilation}
use Rattle.am_matcher.proofs.whole.Whole.matches.Goals as goal

pub returns-clause-answer : goal.returns-clause-answer
returns-clause-answer c =
    let same : c.as_bytes.result.now ≡ c.args.text.now = search rules in
    c.in_ok-found.ensures.answer
    ∙ ap (λ (d : Dfa). is_some (found_by d.nfa c.as_bytes.result.now)) c.deref.ensures
    ∙ ap (λ text. is_some (found_by c.self.inside.dfa.value.nfa text)) same
    ∙ c.self.invariant.0 c.args.text.now (λ k. (c.type_inv.text k).fits)
    ∙ ap (λ (p : Compilation). is_match p.text c.args.text.now) c.self.view_is
