use Rattle.std.proofs.Common.{arith}
use Rattle.std.proofs.lemmas.Bool.Decides.{nat_tests}
use Rattle.am_http.proofs.Ids.{lacks_prefix, behind_prefix, lacks_slash}
use Rattle.am_http.proofs.routes.id_in.Goals as goal

pub returns-in_err-id : goal.returns-in_err-id
returns-in_err-id c = let none = c.in_err-id.ensures.cases in let e = c.from_residual.ensures in rw e (lacks_prefix c.args.path.now none)

pub returns : goal.returns
returns c =
    record {
      spelled = behind_prefix c.args.path.now c.in_ok-id.id.now c.in_ok-id.ensures.cases;
      some = grind (arith, nat_tests, c.is_empty.ensures, c.if-is_empty.false);
      one = lacks_slash c.in_ok-id.id.now _ c.contains.ensures.cases c.if-contains.false;
    }
