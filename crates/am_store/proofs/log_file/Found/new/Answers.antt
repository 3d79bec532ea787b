use Rattle.std.proofs.Common.{◌<◌, ◌≤◌, arith}
use Rattle.am_store.proofs.StandInBlocks.{stand_in_ends}
use Rattle.am_store.proofs.log_file.Found.new.Goals as goal

pub invariant_of-result : goal.invariant_of-result
invariant_of-result c =
    let long : 0 < c.args.end → 9 ≤ c.args.end = λ some. grind arith in
    record { whole = stand_in_ends c.args.end c.ranges.end.fits long }
