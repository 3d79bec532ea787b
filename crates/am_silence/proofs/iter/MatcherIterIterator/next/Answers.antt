use Rattle.std.proofs.Common.{◌≡◌, List, [], ◌∷◌, ap₂, sym, ◌∙◌}
use Rattle.am_silence.specs.declared.matcher.Matcher.{Matcher}
use Rattle.am_silence.specs.Matchers.{writes_matcher}
use Rattle.am_silence.proofs.MatcherTexts.{behind_tag, first_in, nothing_in, own_read, rest_read, others_read}
use Rattle.am_wire.proofs.Items.{shorter}
use Rattle.am_silence.proofs.iter.MatcherIterIterator.next.Goals as goal

pub returns-then-is_empty-clause-steps : goal.returns-then-is_empty-clause-steps
returns-then-is_empty-clause-steps c =
    let none : c.args.self.now ≡ [] = sym c.self.view_is ∙ nothing_in _ c.if-is_empty.ensures in (none, none)

pub split_part-requires : goal.split_part-requires
split_part-requires c =
    let f = first_in c.self.inside.rest.now c.self.invariant c.if-is_empty.ensures in
    (writes_matcher f.0, behind_tag f.2)

pub matcher_of-requires : goal.matcher_of-requires
matcher_of-requires c =
    let f = first_in c.self.inside.rest.now c.self.invariant c.if-is_empty.ensures in
    (f.0, own_read f.2 (c.split_part.ensures (writes_matcher f.0) (behind_tag f.2)))

pub invariant_of-self : goal.invariant_of-self
invariant_of-self c =
    let f = first_in c.self.inside.rest.now c.self.invariant c.if-is_empty.ensures in
    rest_read f.2 (c.split_part.ensures (writes_matcher f.0) (behind_tag f.2))

pub returns-clause-steps : goal.returns-clause-steps
returns-clause-steps c =
    let f = first_in c.self.inside.rest.now c.self.invariant c.if-is_empty.ensures in
    let parts = c.split_part.ensures (writes_matcher f.0) (behind_tag f.2) in
    sym c.self.view_is ∙ f.2.spells
    ∙ ap₂ (λ (m : Matcher) (ms : List Matcher). m ∷ ms) (sym (c.matcher_of.ensures f.0 (own_read f.2 parts))) (sym (others_read f.2 parts))

pub returns-clause-goes : goal.returns-clause-goes
returns-clause-goes c =
    let e = returns-clause-steps c in
    record { on = λ _. (tt, tt, shorter _ _ _ e); keeps = tt; rests = λ _. tt }
