use Rattle.am_merge.proofs.Keys.{key_order}
use Rattle.am_snapshot.proofs.ReadAgain.{read_back}
use Rattle.am_store.proofs.Crashes.{right_after}
use Rattle.am_store.proofs.Outlasting.{acknowledged_kept, log_outlasts, stands_kept, still_has}
use Rattle.am_store.proofs.Histories.{nothing_new_of_all, outlasts_all}
use Rattle.am_store.proofs.RewriteOutlasting.{nothing_new}
use Rattle.am_store.proofs.laws.no_crash_loses_a_version.Goals as goal

pub returns-clause-stands : goal.returns-clause-stands
returns-clause-stands g c = λ unknown path v left. stands_kept g.V.Version.seen (g.V.Message.reads unknown) path v left

pub returns-clause-acknowledged : goal.returns-clause-acknowledged
returns-clause-acknowledged g c = λ unknown path batches batch v left. acknowledged_kept g.V.Version.seen (g.V.Message.reads unknown) path v batches batch left

pub returns-clause-appended : goal.returns-clause-appended
returns-clause-appended g c = still_has

pub returns-clause-logged : goal.returns-clause-logged
returns-clause-logged g c = λ unknown path batches file disk v. log_outlasts g.V.Version.seen (g.V.Message.reads unknown) path v batches file disk

pub returns-clause-outlasts : goal.returns-clause-outlasts
returns-clause-outlasts g c = λ unknown path most acts before calls disk v small its short good made safe has left may.
    let keys = key_order g.met.V.Key.Ord.total g.met.V.Version.exact_keys in
    let back = read_back g.V.Version.seen g.V.Message.plain g.V.Message.reads g.met.V.Message.dropped unknown g.V.Message.writes g.V.Version.is_value g.V.Message.is_value
    g.met.V.Message.round_trip g.met.V.Record.written in
    outlasts_all g.V.Version.seen g.V.Key.Ord.cmp keys g.V.Version.is_value g.V.Message.plain unknown (g.V.Message.reads unknown) back path most small v acts
    (λ k d lt n e below. record { short = short k d lt n e below; good = good k d lt n e below; has = has k d lt n e below }) before calls disk its made safe left may

pub returns-clause-nothing_new : goal.returns-clause-nothing_new
returns-clause-nothing_new g c = λ unknown path most acts before calls disk left map v small its short good made may starts held.
    let keys = key_order g.met.V.Key.Ord.total g.met.V.Version.exact_keys in
    let back = read_back g.V.Version.seen g.V.Message.plain g.V.Message.reads g.met.V.Message.dropped unknown g.V.Message.writes g.V.Version.is_value g.V.Message.is_value
    g.met.V.Message.round_trip g.met.V.Record.written in
    nothing_new_of_all g.V.Version.seen g.V.Key.Ord.cmp keys g.V.Version.is_value g.V.Message.plain unknown (g.V.Message.reads unknown) back path most small v acts
    (λ k d lt n e below. (short k d lt n e below, good k d lt n e below)) before calls disk its made left may map starts held

pub returns-clause-after : goal.returns-clause-after
returns-clause-after g c = λ unknown path calls disk new v runs kept left may. kept left (right_after calls disk new left runs may)

pub returns-clause-nothing_rewritten_new : goal.returns-clause-nothing_rewritten_new
returns-clause-nothing_rewritten_new g c = λ unknown path most states before calls disk left map v small its are made may starts held.
    let keys = key_order g.met.V.Key.Ord.total g.met.V.Version.exact_keys in
    let back = read_back g.V.Version.seen g.V.Message.plain g.V.Message.reads g.met.V.Message.dropped unknown g.V.Message.writes g.V.Version.is_value g.V.Message.is_value
    g.met.V.Message.round_trip g.met.V.Record.written in
    nothing_new g.V.Version.seen g.V.Key.Ord.cmp keys g.V.Version.is_value g.V.Message.plain unknown (g.V.Message.reads unknown) back path most states before calls disk small its are made left may map starts v held
