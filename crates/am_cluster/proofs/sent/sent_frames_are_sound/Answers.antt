use Rattle.am_cluster.proofs.Outgoing.{all_addressed, all_sound}
use Rattle.am_cluster.proofs.sent.sent_frames_are_sound.Goals as goal

pub returns-clause-sound : goal.returns-clause-sound
returns-clause-sound c = λ old new event now outcome step are whole. all_sound old new event now outcome step are whole

pub returns-clause-addressed : goal.returns-clause-addressed
returns-clause-addressed c = λ old new event now outcome step. all_addressed old new event now outcome step
