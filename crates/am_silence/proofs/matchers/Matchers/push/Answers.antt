use Rattle.std.proofs.Common.{◌++◌, ◌<◌, ◌^◌, ℕ, List, [], ◌∷◌, length, ap, ◌∙◌, arith}
use Rattle.am_silence.specs.declared.matcher.Matcher.{Matcher}
use Rattle.am_silence.proofs.MatcherTexts.{more_text, more_spells}
use Rattle.am_silence.proofs.matchers.Matchers.push.Goals as goal

pub invariant_of-self-2 : goal.invariant_of-self-2
invariant_of-self-2 c =
    let field = c.as_slice.ensures.value ∙ c.in_ok-field.ensures.written in
    let longer = c.in_ok-extend_from_slice.ensures.items ∙ ap (λ (t : List ℕ). c.self.inside.text.items ++ t) field in
    let new = c.extend_from_slice.new.self in
    let short : length new.items < 2 ^ 64 = omega (arith, new.ok.0, new.ok.1, new.small) in
    more_text c.self.invariant c.in_ok-field.ensures.value longer short

pub returns-clause-pushed : goal.returns-clause-pushed
returns-clause-pushed c =
    let field = c.as_slice.ensures.value ∙ c.in_ok-field.ensures.written in
    let longer = c.in_ok-extend_from_slice.ensures.items ∙ ap (λ (t : List ℕ). c.self.inside.text.items ++ t) field in
    let new = c.extend_from_slice.new.self in
    let short : length new.items < 2 ^ 64 = omega (arith, new.ok.0, new.ok.1, new.small) in
    more_spells c.self.invariant c.in_ok-field.ensures.value longer short
    ∙ ap (λ (ms : List Matcher). ms ++ c.args.matcher.now ∷ []) c.self.view_is
