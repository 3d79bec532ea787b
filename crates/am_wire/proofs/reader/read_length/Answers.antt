use Rattle.std.proofs.Common.{rules, ◌≡◌, ◌≢◌, ◌<◌, length}
use Rattle.std.proofs.lemmas.Result.{err_from_is_err_and}
use Rattle.am_wire.specs.declared.error.WireError.TheVariants.{Truncated}
use Rattle.am_wire.proofs.ReaderLemmas.{HasPart-start, HasPart-more, stops_at_byte, stops_at_end, stops_in_length, ends_length}
use Rattle.am_wire.proofs.reader.read_length.Goals as goal

pub loop-byte-init : goal.loop-byte-init
loop-byte-init g c = HasPart-start _ _ _ _ c.requires

pub returns-in_err-byte-clause-fault : goal.returns-in_err-byte-clause-fault
returns-in_err-byte-clause-fault g c =
    let p = err_from_is_err_and c.from_residual.result c.from_residual.ensures.1 in
    rw (p.1, p.2) (stops_at_byte _ _ _ _ _ _ c.loop-byte.invariant _ _ c.in_err-byte.ensures.fault)

pub returns-in_default-clause-fault : goal.returns-in_default-clause-fault
returns-in_default-clause-fault g c =
    stops_at_end _ _ _ _ _ _ c.loop-byte.invariant _ c.if-len-eq0.false (c.in_ok-byte.ensures.none c.in_default.is)

pub returns-in-Ok-clause-some : goal.returns-in-Ok-clause-some
returns-in-Ok-clause-some g c =
    let lt : c.loop-byte.len < length c.loop-byte.text = search rules in
    ends_length _ _ _ _ _ _ c.loop-byte.invariant _ _ lt (rw c.in-Some.is at c.in_ok-byte.ensures.some) _ c.length_from.ensures _ c.in-Ok.is

pub returns-in-Err-2-clause-fault : goal.returns-in-Err-2-clause-fault
returns-in-Err-2-clause-fault g c =
    let lt : c.loop-byte.len < length c.loop-byte.text = search rules in
    let other : c.in-Err.fault ≢ Truncated c.args.at = search rules in
    stops_in_length _ _ _ _ _ _ c.loop-byte.invariant _ _ lt (rw c.in-Some.is at c.in_ok-byte.ensures.some) _ c.length_from.ensures _ c.in-Err.is other

pub loop-byte-preserved : goal.loop-byte-preserved
loop-byte-preserved g c =
    let lt : c.loop-byte.len < length c.loop-byte.text = search rules in
    let same : c.in-Err.fault ≡ Truncated c.args.at = search rules in
    HasPart-more _ _ _ _ _ _ c.loop-byte.invariant _ _ lt (rw c.in-Some.is at c.in_ok-byte.ensures.some) _ c.length_from.ensures _ c.in-Err.is same
