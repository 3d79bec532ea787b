use Rattle.std.proofs.Common.{◌≡◌, Bool, true, false, List, [], Any, Result, Ok, Err, IfOk, IsErrOf, alloc_error, inl, inr, refl, sym, subst, ◌∙◌, ap, rules}
use Rattle.am_silence.specs.declared.matcher.Matcher.{Matcher}
use Rattle.am_silence.specs.declared.plan.Verdict.{Verdict}
use Rattle.am_silence.specs.declared.plan.Verdict.TheVariants.{Fine, Bad, AllEmpty}
use Rattle.am_matcher.specs.declared.dialect.Dialect.{Dialect}
use Rattle.am_matcher.specs.declared.compiled.BuildError.{BuildError}
use Rattle.am_matcher.specs.declared.compiled.BuildError.TheVariants as build
use Rattle.am_matcher.specs.Dialects.{DoMatch, IsRefusedMatcher, IsVerdictIn, takes_names}
use Rattle.am_matcher.proofs.Meant.{verdict_all_empty, verdict_fine}
use Rattle.am_matcher.proofs.cache.PatternCache.verdict_in.Goals as goal

-- the verdict is right, whatever came of judging
of_judged : {E : Type 0} (dialect : Dialect) (matchers : List Matcher) (judged : Result Bool BuildError) (r : Result Verdict E) (e : E)
    → takes_names dialect matchers ≡ true → IfOk judged (DoMatch dialect matchers []) → (IsErrOf judged build.BadPattern → Any (IsRefusedMatcher dialect) matchers)
    → (judged ≡ Ok true → r ≡ Ok AllEmpty) → (judged ≡ Ok false → r ≡ Ok Fine) → (judged ≡ Err build.BadPattern → r ≡ Ok Bad) → (judged ≡ Err build.Memory → r ≡ Err e)
    → IfOk r (IsVerdictIn dialect matchers)
of_judged {E} dialect matchers (Ok true) r e names answer broken all some bad memory = subst (λ (x : Result Verdict E). IfOk x (IsVerdictIn dialect matchers)) (sym (all refl)) (verdict_all_empty dialect matchers names answer)
of_judged {E} dialect matchers (Ok false) r e names answer broken all some bad memory = subst (λ (x : Result Verdict E). IfOk x (IsVerdictIn dialect matchers)) (sym (some refl)) (verdict_fine dialect matchers names answer)
of_judged {E} dialect matchers (Err build.BadPattern) r e names answer broken all some bad memory = subst (λ (x : Result Verdict E). IfOk x (IsVerdictIn dialect matchers)) (sym (bad refl)) (inl (broken refl))
of_judged {E} dialect matchers (Err build.Memory) r e names answer broken all some bad memory = subst (λ (x : Result Verdict E). IfOk x (IsVerdictIn dialect matchers)) (sym (memory refl)) tt

pub returns-then-not-takes_names-clause-verdict : goal.returns-then-not-takes_names-clause-verdict
returns-then-not-takes_names-clause-verdict c =
    let answer = c.if-not-takes_names.true in
    let no : c.takes_names.result ≡ false = search rules in
    inr (ap (takes_names c.args.dialect) (sym c.iter.ensures) ∙ sym c.takes_names.ensures ∙ no)

pub returns-clause-verdict : goal.returns-clause-verdict
returns-clause-verdict c =
    let dialect = c.args.dialect in
    let answer = c.if-not-takes_names.false in
    let taken : c.takes_names.result ≡ true = search rules in
    let names : takes_names dialect c.iter-2.result ≡ true = ap (takes_names dialect) (c.iter-2.ensures ∙ sym c.iter.ensures) ∙ sym c.takes_names.ensures ∙ taken in
    let judged = c.judge_by_no_labels.ensures in
    let told = c.verdict_of.ensures in
    subst (λ (ms : List Matcher). IfOk c.verdict_of.result (IsVerdictIn dialect ms)) c.iter-2.ensures
    (of_judged dialect c.iter-2.result c.judge_by_no_labels.result c.verdict_of.result alloc_error names judged.answer judged.broken told.all told.some told.broken told.memory)
