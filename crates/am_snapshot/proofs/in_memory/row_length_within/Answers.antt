use Rattle.std.proofs.Common.{arith}
use Rattle.std.proofs.lemmas.List.Elements.{All-nil}
use Rattle.am_snapshot.proofs.Fits.{IsShort, counted_more, no_room, all_on, all_behind}
use Rattle.am_snapshot.proofs.in_memory.row_length_within.Goals as goal

pub loop-version-preserved : goal.loop-version-preserved
loop-version-preserved g c =
    let seen = g.V.Version.seen in
    let so_far = c.loop-version.invariant in
    let (fits, is) = rw c.canonical.ensures.content at c.in_ok-total.ensures in
    let steps = c.in-Some.ensures.steps in
    record {
      count = omega (arith, is, counted_more seen c.args.limit c.loop-version.total _ _ _ _ steps so_far.count);
      few = omega (arith, is, fits.1);
      order = so_far.order;
      values = all_on seen g.V.Version.is_value _ _ _ _ steps c.canonical.ensures.value so_far.values;
      short = all_on seen (IsShort seen) _ _ _ _ steps fits.0 so_far.short;
      long = all_behind seen (IsShort seen) _ _ _ _ steps so_far.long;
    }

pub returns-in_err-total-clause-length : goal.returns-in_err-total-clause-length
returns-in_err-total-clause-length g c =
    let so_far = c.loop-version.invariant in
    let refused = rw c.canonical.ensures.content at c.in_err-total.ensures in
    rw c.from_residual.ensures (no_room g.V.Version.seen c.args.limit c.loop-version.total _ _ _ _ c.in-Some.ensures.steps so_far.count refused so_far.long)

pub returns-clause-length : goal.returns-clause-length
returns-clause-length g c =
    let so_far = c.loop-version.invariant in
    let none_left = c.in-None.ensures.steps.0 in
    let counted = rw none_left at so_far.count in (
      record { short = so_far.short (rw none_left (All-nil (IsShort g.V.Version.seen))); size = omega (arith, counted, so_far.few) },
      omega (arith, counted),
    )
