use Rattle.am_cluster.proofs.Lending.{lent_maps_are_its_lenders, lent_sound, lent_whole}
use Rattle.am_cluster.proofs.States.{of_log, of_silences}
use Rattle.am_cluster.proofs.step_laws.lent_maps_come_from_their_lender.Goals as goal

pub returns-clause-silences : goal.returns-clause-silences
returns-clause-silences c = lent_maps_are_its_lenders of_silences

pub returns-clause-log : goal.returns-clause-log
returns-clause-log c = lent_maps_are_its_lenders of_log

pub returns-clause-sound : goal.returns-clause-sound
returns-clause-sound c = lent_sound

pub returns-clause-whole : goal.returns-clause-whole
returns-clause-whole c = λ unknown sender lent is are. lent_whole unknown lent is are
