use Rattle.std.proofs.Common.{arith}
use Rattle.std.proofs.lemmas.Bool.Decides.{nat_tests}
use Rattle.am_http.specs.declared.cause.Cause.TheVariants.{EndedEarly}
use Rattle.am_http.proofs.request.unfinished.Goals as goal

pub returns-then-not-is_empty : goal.returns-then-not-is_empty
returns-then-not-is_empty c = (EndedEarly, c.refusal.ensures, (c.if-ended.true, grind (arith, nat_tests, c.is_empty.ensures, c.if-not-is_empty.true), c.requires))
