use Rattle.regex_syntax.specs.Verdict.{Reads}
use Rattle.am_matcher.proofs.HandedOn.{given_error}
use Rattle.am_matcher.proofs.Found.{readable_as_read, unread_by_parser}
use Rattle.am_matcher.proofs.whole.read_alone.Goals as goal

pub returns-clause-read : goal.returns-clause-read
unfolding Reads
returns-clause-read c = readable_as_read c.default.result _ _ _ _ c.default.ensures c.in_ok-parse.ensures.ok

pub returns-in_err-parse-clause-unread : goal.returns-in_err-parse-clause-unread
returns-in_err-parse-clause-unread c bad =
    unread_by_parser c.default.result _ c.in_err-parse.field-0.0.kind c.default.ensures c.in_err-parse.ensures.err
    (given_error c.from_residual.result _ _ c.from_residual.ensures.1 bad)
