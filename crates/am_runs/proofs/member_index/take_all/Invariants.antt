use Rattle.std.proofs.Common.{◌≡◌, take, true}
use Rattle.std.specs.Prelude.{◌↔◌, IsTrue}
use Rattle.am_merge.specs.Maps.{at}
use Rattle.am_runs.specs.Steps.{EachStep}
use Rattle.am_runs.specs.Tests.{top_among, in_time}
use Rattle.am_runs.proofs.member_index.take_all.Given as goal

abbrev pub invariant-loop-number : goal.invariant-loop-number
invariant-loop-number g l =
    let seen = g.V.Version.seen in
    let cmp = g.V.Key.Ord.cmp in
    record {
      calm : IsTrue l.calm ↔ EachStep (take l.number l.versions) (λ done v. in_time seen (top_among seen cmp (seen v).key (at seen cmp l.fn.taken (seen v).key) done) l.last l.now v ≡ true);
      taken : (key : g.row.V-Key.Denot) → at seen cmp l.taken key ≡ top_among seen cmp key (at seen cmp l.fn.taken key) (take l.number l.versions);
    }
