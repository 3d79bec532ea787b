use Rattle.std.proofs.Common.{Err, ap}
use Rattle.am_matcher.proofs.HandedOn.{bad_of_build, given_error, handed_on, no_syntax_of_build}
use Rattle.am_matcher.proofs.filter.Filter.parse_in.Goals as goal

pub returns-in_err-matcher-clause-syntax : goal.returns-in_err-matcher-clause-syntax
returns-in_err-matcher-clause-syntax c e =
    c.in_err-matcher.ensures.syntax (handed_on c.from_residual.result c.in_err-matcher.field-0.0 _ c.from_residual.ensures.1 e)

pub returns-in_err-matcher-clause-broken : goal.returns-in_err-matcher-clause-broken
returns-in_err-matcher-clause-broken c e =
    absurd (c.in_err-matcher.ensures.no_pattern (handed_on c.from_residual.result c.in_err-matcher.field-0.0 _ c.from_residual.ensures.1 e))

pub returns-in_err-compiled-clause-syntax : goal.returns-in_err-compiled-clause-syntax
returns-in_err-compiled-clause-syntax c e =
    absurd (no_syntax_of_build _ (given_error c.from_residual-in_err-compiled.result _ _ c.from_residual-in_err-compiled.ensures.1 e))

pub returns-in_err-compiled-clause-broken : goal.returns-in_err-compiled-clause-broken
returns-in_err-compiled-clause-broken c e = (
  c.in_ok-matcher.matcher,
  c.in_ok-matcher.ensures.read,
  c.in_err-compiled.ensures.broken (ap Err (bad_of_build c.in_err-compiled.field-0.0 (given_error c.from_residual-in_err-compiled.result _ _ c.from_residual-in_err-compiled.ensures.1 e))),
)

pub returns-clause-read : goal.returns-clause-read
returns-clause-read c = record { written = c.in_ok-matcher.matcher; is_filter = c.in_ok-matcher.ensures.read; is_meant = c.in_ok-compiled.ensures.meant }
