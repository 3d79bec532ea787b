use Rattle.std.proofs.Common.{[], sym, subst, map}
use Rattle.std.proofs.lemmas.List.Elements.{All-nil}
use Rattle.am_runs.specs.Records.{step_of}
use Rattle.am_runs.specs.Accounts.{IsAccount}
use Rattle.am_runs.proofs.Cuts.{each_nil}
use Rattle.am_runs.proofs.Stands.{stands_none}
use Rattle.am_runs.specs.Runs.{IsPossible}
use Rattle.am_runs.specs.MemberIndexes.{AreMemberIndexes}
use Rattle.am_runs.proofs.run.Run.new.Goals as goal

pub invariant_of-result : goal.invariant_of-result
invariant_of-result g c =
    let seen = g.V.Version.seen in
    let cmp = g.V.Key.Ord.cmp in
    subst (λ ss. IsAccount seen cmp g.V.Version.is_value c.args.members (map step_of ss) c.new-2.result.items) (sym c.new.ensures.items) (record {
      run = each_nil (IsPossible seen cmp c.args.members);
      values = All-nil g.V.Version.is_value;
      stands = subst (λ ss. AreMemberIndexes seen cmp ss []) (sym c.new-2.ensures.items) (stands_none seen cmp);
    })
