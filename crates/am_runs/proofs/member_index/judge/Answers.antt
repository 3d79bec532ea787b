use Rattle.std.proofs.Common.{sym, subst}
use Rattle.std.specs.Prelude.{IfOk}
use Rattle.am_runs.specs.Records.{step_of}
use Rattle.am_runs.specs.MemberIndexes.{IsJudged}
use Rattle.am_runs.proofs.Takes.{judged_took}
use Rattle.am_runs.proofs.member_index.judge.Goals as goal

pub returns-in-Took : goal.returns-in-Took
returns-in-Took g c =
    let seen = g.V.Version.seen in
    let cmp = g.V.Key.Ord.cmp in
    subst (λ s. IfOk c.take_all.result (IsJudged seen cmp c.args.index.now (record { runs = c.args.index.now.runs; acted = c.args.index.now.acted; lasts = c.args.index.now.lasts; fault = c.args.index.now.fault; taken = c.take_all.new.taken; saved = c.args.index.now.saved }) (step_of s))) (sym c.in-Took.is)
    (judged_took seen cmp c.args.index.now c.take_all.new.taken c.in-Took.place c.in-Took.now c.in-Took.source c.in-Took.versions.items _ c.deref.result.now c.deref.ensures.value c.take_all.result c.take_all.ensures.calm c.take_all.ensures.taken)
