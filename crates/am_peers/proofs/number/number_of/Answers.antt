use Rattle.std.proofs.Common.{◌<◌, length, arith}
use Rattle.std.proofs.lemmas.Grind.{common_steps}
use Rattle.am_peers.proofs.number.number_of.Goals as goal
use Rattle.am_peers.proofs.Decimals.{number_ok, number_err}

pub returns-in-Ok : goal.returns-in-Ok
returns-in-Ok c =
    let some : 0 < length c.args.word.now = grind (arith, common_steps) in
    number_ok c.args.word.now _ _ c.parse.ensures.value.0 some (cc) c.in-Ok.is

pub returns-in-Err : goal.returns-in-Err
returns-in-Err c =
    number_err c.args.word.now _ _ c.parse.ensures.value.0 (cc) c.in-Err.is
