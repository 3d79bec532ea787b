use Rattle.am_cluster.proofs.RoundTrip.{whole_carries, whole_sound}
use Rattle.am_cluster.proofs.carried.laws.whole_states_carry_both_maps.Goals as goal

pub returns-clause-sound : goal.returns-clause-sound
returns-clause-sound c = whole_sound

pub returns-clause-push : goal.returns-clause-push
returns-clause-push c = whole_carries

pub returns-clause-pull : goal.returns-clause-pull
returns-clause-pull c = whole_carries
