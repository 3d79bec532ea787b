use Rattle.std.proofs.Common.{◌<◌, length, arith}
use Rattle.std.proofs.lemmas.Grind.{common_steps}
use Rattle.am_api_decisions.proofs.Decimals.{parsed_ok, parsed_err}
use Rattle.am_api_decisions.proofs.words.number_in.Goals as goal

pub returns-in-Ok : goal.returns-in-Ok
returns-in-Ok c =
    let some : 0 < length c.args.text.now = grind (arith, common_steps) in
    parsed_ok c.args.text.now _ _ c.parse.ensures.value.0 some (cc) c.in-Ok.is

pub returns-in-Err : goal.returns-in-Err
returns-in-Err c =
    let some : 0 < length c.args.text.now = grind (arith, common_steps) in
    parsed_err c.args.text.now _ _ c.parse.ensures.value.0 some (cc) c.in-Err.is
