use Rattle.std.proofs.Common.{sym, subst, length}
use Rattle.am_cluster.specs.Marks.{step_of_mark}
use Rattle.am_cluster.specs.Refusals.{IsIdle}
use Rattle.am_cluster.specs.Reports.{IsPossibleForSilences}
use Rattle.am_cluster.proofs.Refusing.{can_mark, idle_mark}
use Rattle.am_cluster.proofs.cluster.Cluster.refuse_at.Goals as goal

pub refuse-requires-clause-idle : goal.refuse-requires-clause-idle
refuse-requires-clause-idle c = subst IsIdle (sym c.mark_of-mark.ensures) (idle_mark c.args.cause c.args.place c.args.now)

pub refuse-requires-clause-possible : goal.refuse-requires-clause-possible
refuse-requires-clause-possible c =
    subst (λ m. IsPossibleForSilences (length c.args.self.now.replicas) c.args.self.now.silences (step_of_mark m)) (sym c.mark_of-mark.ensures)
    (can_mark c.args.self.now c.args.place c.args.now c.consistency.ensures.world c.requires.within c.args.cause c.requires.late)
