use Rattle.std.proofs.Common.{◌++◌, List, [], ℕ, ◌+◌, drop, ap, append-nil, arith, length, subst, refl}
use Rattle.std.proofs.lemmas.Result.{err_from_is_err_and}
use Rattle.am_wire.specs.Writing.{delimited}
use Rattle.am_snapshot.specs.Encodings.{row_encoding}
use Rattle.am_snapshot.proofs.InOrder.{begins_with}
use Rattle.am_snapshot.proofs.RowEncodings.{row_more, row_within}
use Rattle.am_snapshot.specs.Writing.{Passes}
use Rattle.am_snapshot.proofs.Passing.{passes_none, passes_then, passes_count, stops_in_first, stops_later}
use Rattle.am_snapshot.proofs.sorting.send_encoded.Goals as goal

pub loop-encoding-init : goal.loop-encoding-init
loop-encoding-init g c =
    let waiting = c.args.out.now.gathered.items in
    record {
      sent = [];
      whole = refl;
      passes = subst (λ (left : List ℕ). Passes (g.W.Write.contents c.args.writer.now) (g.W.Write.contents c.args.writer.now) waiting [] left c.args.out.now.written c.args.out.now.written) (append-nil waiting) (passes_none (g.W.Write.contents c.args.writer.now) waiting [] c.args.out.now.written);
    }

pub send_delimited-requires : goal.send_delimited-requires
send_delimited-requires g c =
    let so_far = c.loop-encoding.invariant in
    let steps = begins_with c.args.encodings.now c.loop-encoding.encoding-index c.encoding-item.result c.loop-encoding-test.true c.encoding-item.is in
    let within = row_within (λ (encoding : g.row.T.Denot). g.T.Owned.Version.seen (g.T.EncodedVersion.version encoding)) so_far.sent (drop c.loop-encoding.encoding-index c.args.encodings.now) (drop (c.loop-encoding.encoding-index + 1) c.args.encodings.now) c.args.encodings.now c.encoding-item.result steps so_far.whole in
    let size = ap (λ (x : List ℕ). length (delimited x)) c.encoding.ensures in
    let count = passes_count _ _ _ _ _ _ _ so_far.passes in
    omega (arith, within, size, count, c.requires)

pub returns-in_err-send_delimited-clause-stopped : goal.returns-in_err-send_delimited-clause-stopped
returns-in_err-send_delimited-clause-stopped g c =
    let seen = λ (encoding : g.row.T.Denot). g.T.Owned.Version.seen (g.T.EncodedVersion.version encoding) in
    let p = err_from_is_err_and c.from_residual.result c.from_residual.ensures.1 in
    let so_far = c.loop-encoding.invariant in
    let steps = begins_with c.args.encodings.now c.loop-encoding.encoding-index c.encoding-item.result c.loop-encoding-test.true c.encoding-item.is in
    let stop = rw c.encoding.ensures at c.in_err-send_delimited.ensures.stopped in
    let later = stops_later _ _ _ _ _ _ _ _ _ _ so_far.passes stop in
    let row = row_more seen so_far.sent (drop c.loop-encoding.encoding-index c.args.encodings.now) (drop (c.loop-encoding.encoding-index + 1) c.args.encodings.now) c.args.encodings.now c.encoding-item.result steps so_far.whole in
    let more = stops_in_first _ _ c.args.out.now.gathered.items (so_far.sent ++ delimited (seen c.encoding-item.result).content) (row_encoding seen (drop (c.loop-encoding.encoding-index + 1) c.args.encodings.now)) _ _ later in
    rw (p.1, p.2) (rw row at more)

pub loop-encoding-preserved : goal.loop-encoding-preserved
loop-encoding-preserved g c =
    let seen = λ (encoding : g.row.T.Denot). g.T.Owned.Version.seen (g.T.EncodedVersion.version encoding) in
    let so_far = c.loop-encoding.invariant in
    let steps = begins_with c.args.encodings.now c.loop-encoding.encoding-index c.encoding-item.result c.loop-encoding-test.true c.encoding-item.is in
    let passed = rw c.encoding.ensures at c.in_ok-send_delimited.ensures.passed in
    record {
      sent = so_far.sent ++ delimited (seen c.encoding-item.result).content;
      whole = row_more seen so_far.sent (drop c.loop-encoding.encoding-index c.args.encodings.now) (drop (c.loop-encoding.encoding-index + 1) c.args.encodings.now) c.args.encodings.now c.encoding-item.result steps so_far.whole;
      passes = passes_then _ _ _ _ _ _ _ _ _ _ _ so_far.passes passed;
    }
