use Rattle.std.proofs.Common.{subst, sym}
use Rattle.regex_syntax.specs.Verdict.{Reads}
use Rattle.regex.specs.declared.error.Error.TheVariants.{Syntax, CompiledTooBig}
use Rattle.am_matcher.specs.Searches.{BeginsFirst, Finds}
use Rattle.am_matcher.proofs.HandedOn.{given_error}
use Rattle.am_matcher.proofs.Found.{readable_as_read, unread_by_parser, finds_as_read}
use Rattle.am_matcher.proofs.whole.dfa_of.Goals as goal

pub returns-clause-finds : goal.returns-clause-finds
returns-clause-finds c =
    subst (λ nfa. Finds nfa c.args.text.now) (sym c.in_ok-dfa.ensures.same)
    (finds_as_read c.in_ok-nfa.nfa c.in_ok-parsed.parsed.hir c.default.result c.args.text.now _ c.default.ensures c.in_ok-nfa.ensures.implements c.in_ok-parsed.ensures.ok)

pub returns-clause-first : goal.returns-clause-first
returns-clause-first c = subst BeginsFirst (sym c.in_ok-dfa.ensures.same) c.in_ok-nfa.ensures.first

pub returns-clause-read : goal.returns-clause-read
unfolding Reads
returns-clause-read c = readable_as_read c.default.result _ _ _ _ c.default.ensures c.in_ok-parsed.ensures.ok

pub returns-in_err-parsed-clause-refused : goal.returns-in_err-parsed-clause-refused
returns-in_err-parsed-clause-refused c bad = (
  Syntax c.in_err-parsed.field-0.0,
  unread_by_parser c.default.result _ c.in_err-parsed.field-0.0.kind c.default.ensures c.in_err-parsed.ensures.err
      (given_error c.from_residual.result _ _ c.from_residual.ensures.1 bad),
)

pub returns-in_err-nfa-clause-refused : goal.returns-in_err-nfa-clause-refused
unfolding Reads
returns-in_err-nfa-clause-refused c bad = (CompiledTooBig, readable_as_read c.default.result _ _ _ _ c.default.ensures c.in_ok-parsed.ensures.ok)

pub returns-in_err-dfa-clause-refused : goal.returns-in_err-dfa-clause-refused
unfolding Reads
returns-in_err-dfa-clause-refused c bad = (CompiledTooBig, readable_as_read c.default.result _ _ _ _ c.default.ensures c.in_ok-parsed.ensures.ok)
