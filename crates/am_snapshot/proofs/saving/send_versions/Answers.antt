use Rattle.std.proofs.Common.{◌≡◌, ◌++◌, List, [], ℕ, ap, append-nil, arith, length, subst}
use Rattle.std.proofs.lemmas.Result.{err_from_is_err_and}
use Rattle.am_wire.specs.Writing.{delimited}
use Rattle.am_snapshot.specs.Encodings.{row_encoding}
use Rattle.am_snapshot.proofs.RowEncodings.{row_end, row_more, row_within}
use Rattle.am_snapshot.specs.Writing.{Passes}
use Rattle.am_snapshot.proofs.Passing.{passes_none, passes_then, passes_count, stops_in_first, stops_later}
use Rattle.am_snapshot.proofs.saving.send_versions.Goals as goal

pub loop-version-init : goal.loop-version-init
loop-version-init g c =
    let same : c.into_iter-version-iterator.result ≡ c.args.held.now = let gives = c.into_iter-version-iterator.ensures.into_iter_gives in let items = c.iter-version-items.ensures.items in cc in
    let waiting = c.args.out.now.gathered.items in
    record {
      sent = [];
      whole = ap (λ (vs : List g.row.V.Denot). row_encoding g.V.Version.seen vs) same;
      passes = subst (λ (left : List ℕ). Passes (g.W.Write.contents c.args.writer.now) (g.W.Write.contents c.args.writer.now) waiting [] left c.args.out.now.written c.args.out.now.written) (append-nil waiting) (passes_none (g.W.Write.contents c.args.writer.now) waiting [] c.args.out.now.written);
    }

pub send_delimited-requires : goal.send_delimited-requires
send_delimited-requires g c =
    let so_far = c.loop-version.invariant in
    let within = row_within g.V.Version.seen so_far.sent c.loop-version.version-iterator c.next.new.self c.args.held.now c.in-Some.version.now c.in-Some.ensures.steps so_far.whole in
    let size = ap (λ (x : List ℕ). length (delimited x)) c.canonical.ensures.content in
    let count = passes_count _ _ _ _ _ _ _ so_far.passes in
    omega (arith, within, size, count, c.requires)

pub returns-in_err-send_delimited-clause-stopped : goal.returns-in_err-send_delimited-clause-stopped
returns-in_err-send_delimited-clause-stopped g c =
    let p = err_from_is_err_and c.from_residual.result c.from_residual.ensures.1 in
    let so_far = c.loop-version.invariant in
    let content = (g.V.Version.seen c.in-Some.version.now).content in
    let stop = rw c.canonical.ensures.content at c.in_err-send_delimited.ensures.stopped in
    let later = stops_later _ _ _ _ _ _ _ _ _ _ so_far.passes stop in
    let more = stops_in_first _ _ c.args.out.now.gathered.items (so_far.sent ++ delimited content) (row_encoding g.V.Version.seen c.next.new.self) _ _ later in
    let row = row_more g.V.Version.seen so_far.sent c.loop-version.version-iterator c.next.new.self c.args.held.now c.in-Some.version.now c.in-Some.ensures.steps so_far.whole in
    rw (p.1, p.2) (rw row at more)

pub loop-version-preserved : goal.loop-version-preserved
loop-version-preserved g c =
    let so_far = c.loop-version.invariant in
    let passed = rw c.canonical.ensures.content at c.in_ok-send_delimited.ensures.passed in
    record {
      sent = so_far.sent ++ delimited (g.V.Version.seen c.in-Some.version.now).content;
      whole = row_more g.V.Version.seen so_far.sent c.loop-version.version-iterator c.next.new.self c.args.held.now c.in-Some.version.now c.in-Some.ensures.steps so_far.whole;
      passes = passes_then _ _ _ _ _ _ _ _ _ _ _ so_far.passes passed;
    }

pub returns-clause-passed : goal.returns-clause-passed
returns-clause-passed g c =
    let so_far = c.loop-version.invariant in
    let row = row_end g.V.Version.seen so_far.sent c.loop-version.version-iterator c.args.held.now c.in-None.ensures.steps.0 so_far.whole in
    rw row at so_far.passes
