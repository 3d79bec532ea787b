use Rattle.std.proofs.Common.{◌++◌, ◌∷◌, [], List}
use Rattle.std.proofs.lemmas.Result.{err_from_is_err_and}
use Rattle.am_merge.proofs.Keys.{key_order}
use Rattle.am_snapshot.proofs.Bests.{IsBestAt-more, holds_best}
use Rattle.am_snapshot.proofs.RowReads.{reads_more, reads_end_with, reads_stops}
use Rattle.am_merge.specs.Views.{HoldsBest}
use Rattle.am_wire.specs.Limits.{most}
use Rattle.am_alertmanager.proofs.Begun.{as_read, read_so_far}
use Rattle.am_alertmanager.proofs.reading.read_some.Goals as goal

pub returns-in_err-version-clause-stops : goal.returns-in_err-version-clause-stops
returns-in_err-version-clause-stops g c =
    let p = err_from_is_err_and c.from_residual.result c.from_residual.ensures.1 in
    let (row, read, answer) = c.in_err-version.ensures in
    rw (p.1, p.2) (λ start so_far. let from = c.loop.invariant start so_far in reads_stops (g.V.Message.reads c.args.unknown) most _ _ _ _ _ from.bytes row from.versions (read_so_far (g.V.Message.reads c.args.unknown) g.V.Version.seen g.V.Key.Ord.cmp _ _ _ _ from) read _ answer)

pub returns-in_default-clause-ends : goal.returns-in_default-clause-ends
returns-in_default-clause-ends g c = λ start so_far _.
    let keys = key_order g.met.V.Key.Ord.total g.met.V.Version.exact_keys in
    let from = c.loop.invariant start so_far in
    let (row, read, answer) = rw c.in_default.is at c.in_ok-version.ensures in
    reads_end_with (g.V.Message.reads c.args.unknown) most _ _ _ _ _ from.bytes row from.versions (read_so_far (g.V.Message.reads c.args.unknown) g.V.Version.seen g.V.Key.Ord.cmp _ _ _ _ from) read (λ (set : List g.row.V.Denot). HoldsBest g.V.Version.seen set c.loop.held)
    (holds_best g.V.Version.seen g.V.Key.Ord.cmp keys from.versions c.loop.held from.order from.best) answer

pub loop-preserved : goal.loop-preserved
loop-preserved g c = λ start so_far.
    let keys = key_order g.met.V.Key.Ord.total g.met.V.Version.exact_keys in
    let from = c.loop.invariant start so_far in
    let (row, read, answer) = rw c.in-Some.is at c.in_ok-version.ensures in
    let put = c.in_ok-take.ensures.taken.put in
    as_read (g.V.Message.reads c.args.unknown) g.V.Version.seen g.V.Key.Ord.cmp _ _ _ (from.bytes ++ row) (from.versions ++ c.in-Some.version ∷ []) _
    (reads_more (g.V.Message.reads c.args.unknown) most _ _ _ _ _ from.bytes row from.versions (read_so_far (g.V.Message.reads c.args.unknown) g.V.Version.seen g.V.Key.Ord.cmp _ _ _ _ from) read _ answer)
    put.order
    (IsBestAt-more g.V.Version.seen g.V.Key.Ord.cmp keys from.versions c.loop.held c.take.new.self c.in-Some.version put.joined from.best)
