use Rattle.std.proofs.Common.{◌∙◌, ◌++◌, ◌∷◌, subst, length}
use Rattle.std.specs.Prelude.{Contains}
use Rattle.am_nflog.specs.Mesh.{mesh_version as entry_version}
use Rattle.am_nflog.specs.Keys.{key_cmp}
use Rattle.am_runs.specs.Runs.{IsRun}
use Rattle.am_runs.specs.Steps.{delivered_in}
use Rattle.am_runs.specs.Timely.{IsTimely}
use Rattle.am_cluster.proofs.laws.later.first_is_told_where_old_ones_ended.Goals as goal

pub returns : goal.returns
returns c = λ earlier later spread flight now entry asked place positive was is goes timely has old key replica found answered.
    let members = length earlier.replicas in
    let tied = (was.world.members place replica found).log in
    c.first_is_told_after_a_spread.ensures members spread flight now earlier.log goes.log.rest goes.log.step entry positive
    (subst (λ n. IsRun entry_version key_cmp n (earlier.log ++ goes.log.step ∷ goes.log.rest)) goes.members (subst (IsRun entry_version key_cmp (length later.replicas)) goes.log.parts is.runs.1))
    (subst (λ n. IsTimely entry_version spread flight n (earlier.log ++ goes.log.step ∷ goes.log.rest)) goes.members (subst (IsTimely entry_version spread flight (length later.replicas)) goes.log.parts timely.1))
    goes.log.begins (subst (λ ss. Contains (delivered_in ss) entry) goes.log.parts has) old place (tied.runs ∙ answered.runs) replica.stand asked answered.made tied.held key answered.is
