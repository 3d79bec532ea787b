use Rattle.std.proofs.Common.{arith}
use Rattle.std.proofs.lemmas.Int.{ints}
use Rattle.am_silence_json.proofs.Years.{year_from}
use Rattle.am_silence_json.proofs.moments.write.clock_at.Goals as goal

pub clock_of-requires-clause-year_in : goal.clock_of-requires-clause-year_in
clock_of-requires-clause-year_in c = year_from c.from_days_since_min.result _ c.from_days_since_min.ensures

pub returns-clause-value : goal.returns-clause-value
returns-clause-value c = omega (arith, ints, c.clock_of.ensures.value, c.from_days_since_min.ensures)
