use Rattle.std.proofs.Common.{◌++◌, ◌∷◌, [], List, subst, sym}
use Rattle.std.proofs.lemmas.Result.{err_from_is_err_and}
use Rattle.am_merge.proofs.Keys.{key_order}
use Rattle.am_snapshot.proofs.Bests.{IsBestAt-nil, IsBestAt-more, holds_best}
use Rattle.am_snapshot.proofs.RowReads.{reads_none, reads_more, reads_further, reads_end, reads_end_with, reads_stops}
use Rattle.am_merge.specs.Views.{HoldsBest}
use Rattle.am_snapshot.proofs.reading.take_row_within.Goals as goal

pub loop-rows-init : goal.loop-rows-init
loop-rows-init g c =
    let keys = key_order g.met.V.Key.Ord.total g.met.V.Version.exact_keys in
    rw c.new-builder.ensures ([], [], reads_none (g.V.Message.reads c.args.unknown) _ _ _ c.within-rows.ensures, tt, IsBestAt-nil g.V.Version.seen g.V.Key.Ord.cmp keys)

pub returns-in_err-version-clause-fault : goal.returns-in_err-version-clause-fault
returns-in_err-version-clause-fault g c =
    let p = err_from_is_err_and c.from_residual.result c.from_residual.ensures.1 in
    let (bytes, versions, so_far, _, _) = c.loop-rows.invariant in
    let (row, read, answer) = c.in_err-version.ensures in
    rw (p.1, p.2) (reads_stops (g.V.Message.reads c.args.unknown) _ _ _ _ _ _ bytes row versions so_far read _ answer)

pub loop-rows-smaller : goal.loop-rows-smaller
loop-rows-smaller g c =
    let (bytes, versions, so_far, _, _) = c.loop-rows.invariant in
    let (row, read, answer) = rw c.in-Some.is at c.in_ok-version.ensures in
    reads_further (g.V.Message.reads c.args.unknown) _ _ _ _ _ _ bytes row versions so_far read _ answer

pub loop-rows-preserved : goal.loop-rows-preserved
loop-rows-preserved g c =
    let keys = key_order g.met.V.Key.Ord.total g.met.V.Version.exact_keys in
    let (bytes, versions, so_far, _, best) = c.loop-rows.invariant in
    let (row, read, answer) = rw c.in-Some.is at c.in_ok-version.ensures in
    let put = c.in_ok-take.ensures.taken in (
      bytes ++ row,
      versions ++ c.in-Some.version ∷ [],
      reads_more (g.V.Message.reads c.args.unknown) _ _ _ _ _ _ bytes row versions so_far read _ answer,
      put.order,
      IsBestAt-more g.V.Version.seen g.V.Key.Ord.cmp keys versions c.loop-rows.builder c.take.new.self c.in-Some.version put.joined best,
    )

pub returns-clause-best : goal.returns-clause-best
returns-clause-best g c =
    let keys = key_order g.met.V.Key.Ord.total g.met.V.Version.exact_keys in
    let (bytes, versions, so_far, map, best) = c.loop-rows.invariant in
    let (row, read, answer) = rw c.in_default.is at c.in_ok-version.ensures in
    reads_end_with (g.V.Message.reads c.args.unknown) _ _ _ _ _ _ bytes row versions so_far read (λ (set : List g.row.V.Denot). HoldsBest g.V.Version.seen set c.in_ok-held.held)
    (subst (λ (held : List g.row.V.Denot). HoldsBest g.V.Version.seen versions held) (sym c.in_ok-held.ensures) (holds_best g.V.Version.seen g.V.Key.Ord.cmp keys versions c.loop-rows.builder map best)) answer

pub returns-clause-size : goal.returns-clause-size
returns-clause-size g c =
    let (bytes, versions, so_far, _, _) = c.loop-rows.invariant in
    let (row, read, answer) = rw c.in_default.is at c.in_ok-version.ensures in
    (reads_end (g.V.Message.reads c.args.unknown) _ _ _ _ _ _ bytes row versions so_far read answer).2

pub returns-clause-end : goal.returns-clause-end
returns-clause-end g c =
    let (bytes, versions, so_far, _, _) = c.loop-rows.invariant in
    let (row, read, answer) = rw c.in_default.is at c.in_ok-version.ensures in
    (reads_end (g.V.Message.reads c.args.unknown) _ _ _ _ _ _ bytes row versions so_far read answer).0
