use Rattle.std.proofs.Common.{◌++◌, ap, ◌∙◌, string_bytes}
use Rattle.std.proofs.Math.ListN.{drop_of_length-le}
use Rattle.am_replay.specs.Reports.{report_text}
use Rattle.am_replay.proofs.Reported.{told_all, told_more}
use Rattle.am_replay.proofs.reports.tell_each.Goals as goal

pub loop-place-preserved : goal.loop-place-preserved
loop-place-preserved c =
    told_more c.args.cluster.now c.args.names.now c.loop-place.place c.index-names-place.result c.calm.result.first_fault (string_bytes c.args.out.now) (string_bytes c.loop-place.out) (string_bytes c.tell_report.new.out)
    c.loop-place-test.true c.index-names-place.is c.calm.ensures.fault
    (c.in_ok-tell_report.ensures ∙ ap (λ n. string_bytes c.loop-place.out ++ report_text n c.calm.result.first_fault) c.as_str.ensures.bytes)
    c.loop-place.invariant

pub returns : goal.returns
returns c = told_all c.args.cluster.now c.args.names.now c.loop-place.place _ _ (drop_of_length-le c.args.names.now c.loop-place-test.false) c.loop-place.invariant
