use Rattle.std.proofs.Common.{◌≡◌, ◌∙◌, ℕ, List, true, false, ap, sym, rules, subst}
use Rattle.am_silence.specs.Kinds.{is_regexp}
use Rattle.am_matcher.specs.Dialects.{IsAnswer, IsBrokenIn}
use Rattle.am_matcher.specs.Uses.{TextsPass}
use Rattle.am_silence.specs.declared.matcher.MatcherKind.{MatcherKind}
use Rattle.am_matcher.specs.Labels.{value_in}
use Rattle.am_matcher.specs.Texts.{is_text}
use Rattle.am_matcher.proofs.HandedOn.{handed_on}
use Rattle.am_matcher.proofs.Meant.{Wants, regexp_matches, text_matches}
use Rattle.am_matcher.proofs.judged.judge.Goals as goal
use Rattle.am_matcher.proofs.judged.judge.Goals.{then-is_regexp+in_ok-found, else-is_regexp}

pub returns-in_err-found-clause-broken : goal.returns-in_err-found-clause-broken
returns-in_err-found-clause-broken c bad =
    (search rules, subst (IsBrokenIn c.args.dialect) c.pattern.ensures (c.in_err-found.ensures.broken (handed_on c.from_residual.result c.in_err-found.field-0.0 _ c.from_residual.ensures.1 bad)))

pub returns-in_err-found-clause-kept : goal.returns-in_err-found-clause-kept
returns-in_err-found-clause-kept c = λ test passes pass.
    let is : is_regexp c.args.matcher.now.kind ≡ true = search rules in
    c.is_match.ensures.kept test (subst (λ (t : List ℕ). test t ≡ true) (sym c.pattern.ensures) (passes is)) pass

pub returns-clause-kept : goal.returns-clause-kept
returns-clause-kept c = λ test passes pass.
    elim c.if-is_regexp.branch [
      | then-is_regexp+in_ok-found w ↦
          let is : is_regexp c.args.matcher.now.kind ≡ true = sym (c.is_regexp.ensures ∙ ap is_regexp c.kind.ensures) ∙ w.if-is_regexp.true in
          subst (TextsPass test) (sym w.patterns-is) (w.is_match.ensures.kept test (subst (λ (t : List ℕ). test t ≡ true) (sym w.pattern.ensures) (passes is)) pass)
      | else-is_regexp w ↦ subst (TextsPass test) (sym w.patterns-is) pass
    ]

pub returns-clause-answer : goal.returns-clause-answer
returns-clause-answer c =
    let m = c.args.matcher.now in
    let value = c.value-value.result.now in
    let found = c.if-is_regexp.found in
    let labels = c.args.labels.now in
    let value_is : value ≡ value_in labels m.name = c.value-value.ensures ∙ ap (value_in labels) c.name.ensures in
    let wants : Wants m.kind found c.as_wanted.result = subst (λ (k : MatcherKind). Wants k found c.as_wanted.result) c.kind-2.ensures c.as_wanted.ensures in
    elim c.if-is_regexp.branch [
      | then-is_regexp+in_ok-found w ↦
          let is : is_regexp m.kind ≡ true = sym (c.is_regexp.ensures ∙ ap is_regexp c.kind.ensures) ∙ w.if-is_regexp.true in
          let here : IsAnswer c.args.dialect w.pattern.result.now value found = subst (IsAnswer c.args.dialect w.pattern.result.now value) (sym w.found-is) w.in_ok-found.ensures.answer in
          regexp_matches c.args.dialect m labels value found c.as_wanted.result is value_is (subst (λ (t : List ℕ). IsAnswer c.args.dialect t value found) w.pattern.ensures here) wants
      | else-is_regexp w ↦
          let none : is_regexp m.kind ≡ false = sym (c.is_regexp.ensures ∙ ap is_regexp c.kind.ensures) ∙ w.if-is_regexp.false in
          let found_is : found ≡ is_text m.pattern value = w.found-is ∙ w.eq-found.ensures ∙ ap (λ (t : List ℕ). is_text t value) w.pattern-else-is_regexp.ensures in
          text_matches c.args.dialect m labels value found c.as_wanted.result none value_is found_is wants
    ]
