use Rattle.std.proofs.Common.{◌≡◌, true, [], ◌∷◌, refl, ap, ◌∙◌, subst}
use Rattle.std.specs.Prelude.{◌↔◌, IsTrue}
use Rattle.std.proofs.lemmas.List.{take_all}
use Rattle.am_merge.specs.Maps.{IsJoin, at}
use Rattle.am_runs.specs.Steps.{EachStep}
use Rattle.am_runs.specs.Tests.{top_among, in_time}
use Rattle.am_runs.proofs.Cuts.{each_nil}
use Rattle.am_runs.proofs.Takes.{calm_more, taken_more}
use Rattle.am_runs.proofs.member_index.take_all.Goals as goal

pub loop-number-init : goal.loop-number-init
loop-number-init g c =
    let seen = g.V.Version.seen in
    let cmp = g.V.Key.Ord.cmp in
    record {
      calm = ((λ t. each_nil (λ done v. in_time seen (top_among seen cmp (seen v).key (at seen cmp c.args.taken.now (seen v).key) done) c.args.last c.args.now v ≡ true)), λ each. refl);
      taken = λ key. refl;
    }

pub loop-number-preserved : goal.loop-number-preserved
loop-number-preserved g c =
    let seen = g.V.Version.seen in
    let cmp = g.V.Key.Ord.cmp in
    let versions = c.args.versions.now in
    let number = c.loop-number.number in
    let v = c.index-versions-number.result in
    let within = c.loop-number-test.true in
    let is = c.index-versions-number.is in
    let came : c.in_time.result ≡ in_time seen (at seen cmp c.loop-number.taken (seen v).key) c.args.last c.args.now v =
    c.in_time.ensures ∙ ap (λ top. in_time seen top c.args.last c.args.now v) (c.get.ensures ∙ ap (at seen cmp c.loop-number.taken) c.key.ensures) in
    let joined = subst (λ w. IsJoin seen cmp c.loop-number.taken (w ∷ []) c.take.new.self) c.in_ok-try_clone.ensures c.in_ok-take.ensures.taken.put.joined in
    record {
      calm = calm_more seen cmp c.args.taken.now c.loop-number.taken versions number v c.args.last c.args.now c.loop-number.calm c.in_time.result within is came c.loop-number.invariant.taken c.loop-number.invariant.calm;
      taken = taken_more seen cmp c.args.taken.now c.loop-number.taken c.take.new.self versions number v within is joined c.loop-number.invariant.taken;
    }

pub returns : goal.returns
returns g c =
    let seen = g.V.Version.seen in
    let cmp = g.V.Key.Ord.cmp in
    let all = take_all c.loop-number.number c.args.versions.now c.loop-number-test.false in
    record {
      calm = subst (λ vs. IsTrue c.loop-number.calm ↔ EachStep vs (λ done v. in_time seen (top_among seen cmp (seen v).key (at seen cmp c.args.taken.now (seen v).key) done) c.args.last c.args.now v ≡ true)) all c.loop-number.invariant.calm;
      taken = λ key. c.loop-number.invariant.taken key ∙ ap (top_among seen cmp key (at seen cmp c.args.taken.now key)) all;
    }
