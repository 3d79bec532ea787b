use Rattle.std.proofs.Common.{◌++◌, map, ap, sym, ◌∙◌}
use Rattle.am_instance.proofs.Lifts.{take_map}
use Rattle.am_cluster.specs.Contents.{delivery_of, entries_in, silences_in}
use Rattle.am_cluster.proofs.Parting.{all_put, put_more}
use Rattle.am_cluster.proofs.carried.split_versions.SplitVersions.put_first.Goals as goal

pub loop-version-preserved : goal.loop-version-preserved
loop-version-preserved c =
    put_more _ _ _ _ _ _ c.in-Some.version c.loop-version.invariant c.in-Some.ensures.steps.0 c.put.new.self c.put.ensures.silences c.put.ensures.log c.put.ensures.room

pub returns-clause-silences : goal.returns-clause-silences
returns-clause-silences c =
    c.loop-version.invariant.silences
    ∙ ap (λ ds. c.args.self.now.silences ++ silences_in ds)
    (ap (map delivery_of) (all_put _ _ _ _ _ c.loop-version.invariant (sym c.loop-version.version-iterator.rest.ok.0 ∙ c.in-None.ensures.steps.0)) ∙ sym (take_map delivery_of c.args.count c.args.versions.items))

pub returns-clause-log : goal.returns-clause-log
returns-clause-log c =
    c.loop-version.invariant.log
    ∙ ap (λ ds. c.args.self.now.log ++ entries_in ds)
    (ap (map delivery_of) (all_put _ _ _ _ _ c.loop-version.invariant (sym c.loop-version.version-iterator.rest.ok.0 ∙ c.in-None.ensures.steps.0)) ∙ sym (take_map delivery_of c.args.count c.args.versions.items))
