use Rattle.am_silence_json.proofs.Fronts.{front_digits}
use Rattle.am_silence_json.proofs.moments.fraction.read_fraction.Goals as goal

pub nanos_of-nanos-requires : goal.nanos_of-nanos-requires
nanos_of-nanos-requires c = front_digits _ _ c.count_digits-count.ensures.value
