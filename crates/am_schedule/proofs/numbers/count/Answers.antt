use Rattle.std.proofs.Common.{◌<◌, length, arith}
use Rattle.std.proofs.lemmas.Grind.{common_steps}
use Rattle.am_schedule.proofs.numbers.count.Goals as goal
use Rattle.am_schedule.proofs.Decimals.{parsed_ok, parsed_err}

pub returns-in-Ok : goal.returns-in-Ok
returns-in-Ok c =
    let some : 0 < length c.args.word.now = grind (arith, common_steps) in
    parsed_ok c.args.word.now _ _ c.parse.ensures.value.0 some (cc) c.in-Ok.is

pub returns-in-Err : goal.returns-in-Err
returns-in-Err c =
    let some : 0 < length c.args.word.now = grind (arith, common_steps) in
    parsed_err c.args.word.now _ _ c.parse.ensures.value.0 some (cc) c.in-Err.is
