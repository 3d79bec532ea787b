use Rattle.std.proofs.Common.{◌∙◌, Some, ap}
use Rattle.std.proofs.lemmas.Bool.{false≢true}
use Rattle.am_api_silences.proofs.Statuses.{code_digits_injective, status_digits}
use Rattle.am_api_silences.proofs.serving.status_of.Goals as goal

pub returns-in-Ok : goal.returns-in-Ok
returns-in-Ok c = λ status has.
    let at = status_digits status c.args.bytes.now has in
    let same = c.in-Ok.ensures.ok ∙ c.in_ok-digits.ensures.lookup.0.2 ∙ at.digits_are in
    ap (λ code. Some code) (c.as_u16.ensures.value ∙ code_digits_injective c.in-Ok.code status same)

pub returns-in-Err : goal.returns-in-Err
returns-in-Err c = λ status has.
    let at = status_digits status c.args.bytes.now has in
    absurd (false≢true (c.in-Err.ensures.succeeds.1 (status, has.code, c.in_ok-digits.ensures.lookup.0.2 ∙ at.digits_are)))
