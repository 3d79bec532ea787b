use Rattle.std.proofs.Common.{rules, ◌≡◌, inl, inr}
use Rattle.std.proofs.lemmas.Result.{err_from_is_err_and}
use Rattle.am_silence_json.specs.Shown.{until_end}
use Rattle.am_silence_json.specs.declared.key.ShownKey.TheVariants as keys
use Rattle.am_silence_json.proofs.EachShown.{first_unshown, whole_shown}
use Rattle.am_silence_json.proofs.shown.read_silence.Goals as goal

pub returns-in_err-version-in-Ok-clause-wrong : goal.returns-in_err-version-in-Ok-clause-wrong
returns-in_err-version-in-Ok-clause-wrong c = λ i key e.
    let p = err_from_is_err_and c.from_residual-in_err-version-in-Ok.result c.from_residual-in_err-version-in-Ok.ensures.1 in
    let told = rw (p.1, p.2) at e in
    search rules

pub returns-in_err-version-in-Ok-clause-too_large : goal.returns-in_err-version-in-Ok-clause-too_large
returns-in_err-version-in-Ok-clause-too_large c = λ i e.
    let p = err_from_is_err_and c.from_residual-in_err-version-in-Ok.result c.from_residual-in_err-version-in-Ok.ensures.1 in
    let told = rw (p.1, p.2) at e in
    let large = c.in_err-version-in-Ok.ensures.too_large i told in (
      large.0,
      record {
        version = until_end c.in_ok-silence-in-Ok.silence;
        shown = rw c.in_ok-silence-in-Ok.ensures (whole_shown _ _ _ c.in-Ok.ensures.read c.in_ok-matchers-in-Ok.ensures.read);
        size = large.1;
      },
    )

pub returns-in_err-version-in-Ok-clause-others : goal.returns-in_err-version-in-Ok-clause-others
returns-in_err-version-in-Ok-clause-others c =
    let p = err_from_is_err_and c.from_residual-in_err-version-in-Ok.result c.from_residual-in_err-version-in-Ok.ensures.1 in
    rw (p.1, p.2) (elim c.in_err-version-in-Ok.ensures.others [ inl e ↦ (λ h. cc, λ h. cc) | inr e ↦ (λ h. cc, λ h. cc) ])

pub returns-in_err-matchers-in-Ok-clause-wrong : goal.returns-in_err-matchers-in-Ok-clause-wrong
returns-in_err-matchers-in-Ok-clause-wrong c = λ i key e.
    let p = err_from_is_err_and c.from_residual.result c.from_residual.ensures.1 in
    let told = rw (p.1, p.2) at e in
    let wrong = c.in_err-matchers-in-Ok.ensures.wrong (λ is. cc) in
    let is_key : key ≡ keys.Matchers = cc in
    (cc, rw is_key (first_unshown _ _ c.in-Ok.ensures.read wrong.1))

pub returns-in_err-matchers-in-Ok-clause-others : goal.returns-in_err-matchers-in-Ok-clause-others
returns-in_err-matchers-in-Ok-clause-others c =
    let p = err_from_is_err_and c.from_residual.result c.from_residual.ensures.1 in
    rw (p.1, p.2)
    (λ h. let wrong = c.in_err-matchers-in-Ok.ensures.wrong (λ is. cc) in cc, λ h. let wrong = c.in_err-matchers-in-Ok.ensures.wrong (λ is. cc) in cc)
