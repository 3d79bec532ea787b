use Rattle.am_matcher.specs.declared.dialect.Dialect.TheVariants.{Regex}
use Rattle.am_matcher.specs.Matching.{IsVerdict}
use Rattle.am_matcher.specs.Dialects.{IsVerdictIn}
use Rattle.am_matcher.proofs.HandedOn.{if_ok_then}
use Rattle.am_matcher.proofs.Meant.{verdict_itself}
use Rattle.am_matcher.proofs.cache.PatternCache.verdict.Goals as goal

pub returns-clause-verdict : goal.returns-clause-verdict
returns-clause-verdict c =
    let ms = c.args.matchers.now in
    if_ok_then (IsVerdictIn Regex ms) (IsVerdict ms) c.verdict_in.result (verdict_itself ms) c.verdict_in.ensures.verdict
