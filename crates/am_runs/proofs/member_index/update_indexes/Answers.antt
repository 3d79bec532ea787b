use Rattle.std.proofs.Common.{sym, ap, ◌∙◌, refl, map}
use Rattle.std.proofs.lemmas.List.{length-map}
use Rattle.am_runs.specs.Records.{step_of}
use Rattle.am_runs.specs.MemberIndexes.{fault_after}
use Rattle.am_runs.proofs.Stands.{stands_own}
use Rattle.am_runs.proofs.member_index.update_indexes.Goals as goal

pub returns : goal.returns
returns g c =
    stands_own g.V.Version.seen g.V.Key.Ord.cmp c.args.member c.args.index.now c.judge.new.index _ (map step_of c.args.before.now) (step_of c.args.step.now) c.in_ok-stays.stays c.requires.at
    c.in_ok-stays.ensures c.runs_after-index.ensures c.last_after-index.ensures c.lasts_after-index.ensures
    (c.fault_after-index.ensures ∙ ap (fault_after c.judge.new.index.fault c.in_ok-stays.stays) (sym (length-map c.args.before.now step_of))) refl refl
