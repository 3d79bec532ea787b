use Rattle.std.proofs.Common.{◌≡◌, inr, rules, subst}
use Rattle.std.specs.Prelude.{ℕ, List, IfOk}
use Rattle.am_matcher.specs.Patterns.{whole_text, IsReadable, IsRefusedFor}
use Rattle.am_matcher.specs.Searches.{Finds}
use Rattle.am_matcher.proofs.HandedOn.{on_ok_then}
use Rattle.am_matcher.proofs.whole.dfa_of_pattern.Goals as goal

pub returns-clause-finds : goal.returns-clause-finds
returns-clause-finds c =
    let is_whole : c.as_str.result.now ≡ whole_text c.args.pattern.now = search rules in
    subst (λ (text : List ℕ). IfOk c.dfa_of.result (λ dfa. Finds dfa.nfa text)) is_whole c.dfa_of.ensures.finds

pub returns-clause-sound : goal.returns-clause-sound
returns-clause-sound c =
    let is_whole : c.as_str.result.now ≡ whole_text c.args.pattern.now = search rules in
    on_ok_then c.dfa_of.result (λ (read : IsReadable c.as_str.result.now). record { alone = c.in_ok-read_alone.ensures.read; whole = subst IsReadable is_whole read })
    c.dfa_of.ensures.read

pub returns-clause-broken : goal.returns-clause-broken
returns-clause-broken c bad =
    let is_whole : c.as_str.result.now ≡ whole_text c.args.pattern.now = search rules in
    let refused = c.dfa_of.ensures.refused bad in
    inr (c.in_ok-read_alone.ensures.read, refused.0, subst (λ text. IsRefusedFor text refused.0) is_whole refused.1)
