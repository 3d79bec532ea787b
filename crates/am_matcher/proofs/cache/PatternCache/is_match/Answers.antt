use Rattle.std.proofs.Common.{◌≡◌, ◌∙◌, ℕ, List, true, ap, sym, subst}
use Rattle.am_matcher.specs.Sizes.{CompiledPattern}
use Rattle.am_matcher.specs.Uses.{TextsPass}
use Rattle.am_matcher.proofs.cache.PatternCache.is_match.Goals as goal

pub returns-in-Fill-clause-kept : goal.returns-in-Fill-clause-kept
returns-in-Fill-clause-kept c = λ test passes pass.
    let text : c.is_match-found.new.self.text ≡ c.args.pattern.now = ap (λ (p : CompiledPattern). p.text) c.is_match-found.ensures.same ∙ c.in_ok-built.ensures.text in
    c.keep.ensures.kept test (subst (λ (t : List ℕ). test t ≡ true) (sym text) passes) (subst (TextsPass test) (sym (c.ask.ensures.same ∙ c.self.view_is)) pass)
