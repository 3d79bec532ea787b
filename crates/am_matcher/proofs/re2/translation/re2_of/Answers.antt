use Rattle.std.proofs.Common.{ℕ, List, Vec, Global, ◌∙◌}
use Rattle.am_matcher.specs.Re2.{IsTranslated}
use Rattle.am_matcher.proofs.Re2Readings.{of_err, not_re2}
use Rattle.am_matcher.proofs.re2.translation.re2_of.Goals as goal

pub returns-clause-refused : goal.returns-clause-refused
returns-clause-refused c =
    let characters : List ℕ = c.deref.result.now in
    let none : (written : List ℕ) → IsTranslated characters written → ⊥ =
    of_err (λ (w : Vec ℕ Global). IsTranslated characters w.items) ((written : List ℕ) → IsTranslated characters written → ⊥) c.in_ok-written.field-0 c.in-Err.at c.in_ok-written.ensures c.in-Err.is in
    (not_re2 c.args.pattern.now characters (c.deref.ensures.value ∙ c.in_ok-characters.ensures) none, c.offset_of.ensures)
