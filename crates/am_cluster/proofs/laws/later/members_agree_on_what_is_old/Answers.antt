use Rattle.am_silence.specs.Mesh.{IsMesh}
use Rattle.am_nflog.specs.Mesh.{IsMesh as IsLogMesh}
use Rattle.am_cluster.proofs.OneOfBoth.{agree_on_what_is_old, of_log, of_silences}
use Rattle.am_cluster.proofs.laws.later.members_agree_on_what_is_old.Goals as goal

pub returns-clause-silences : goal.returns-clause-silences
returns-clause-silences c = λ earlier later was is. agree_on_what_is_old of_silences IsMesh c.views_agree.ensures earlier later was.world is.runs is.silences

pub returns-clause-log : goal.returns-clause-log
returns-clause-log c = λ earlier later was is. agree_on_what_is_old of_log IsLogMesh c.views_agree-2.ensures earlier later was.world is.runs is.log
