use Rattle.std.proofs.Common.{ℕ, List, eqb, length, ap, ◌∙◌}
use Rattle.am_silence.specs.declared.matcher.Matcher.{Matcher}
use Rattle.am_silence.proofs.MatcherTexts.{empty_tells}
use Rattle.am_silence.proofs.matchers.Matchers.is_empty.Goals as goal

pub returns : goal.returns
returns c =
    c.is_empty.ensures ∙ ap (λ (n : ℕ). eqb n 0) c.self.inside.text.ok.0 ∙ empty_tells c.self.inside.text.items c.self.invariant
    ∙ ap (λ (ms : List Matcher). eqb (length ms) 0) c.self.view_is
