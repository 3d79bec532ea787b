use Rattle.std.proofs.Common.{subst}
use Rattle.std.specs.Prelude.{IfOk}
use Rattle.am_matcher.specs.declared.dialect.Dialect.{Dialect}
use Rattle.am_matcher.specs.Dialects.{IsVerdictIn}
use Rattle.am_instance.proofs.instance.Instance.judge.Goals as goal

pub returns-clause-verdict : goal.returns-clause-verdict
returns-clause-verdict c =
    subst (λ (d : Dialect). IfOk c.verdict_in.result (IsVerdictIn d c.args.matchers.now)) c.dialect-dialect.ensures c.verdict_in.ensures.verdict
