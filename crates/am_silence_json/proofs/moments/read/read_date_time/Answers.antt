use Rattle.std.proofs.Common.{◌≡◌, refl}
use Rattle.am_silence_json.proofs.moments.read.read_date_time.Goals as goal

pub returns-in_err-fraction-clause-only : goal.returns-in_err-fraction-clause-only
returns-in_err-fraction-clause-only c = λ d h.
    let fraction = rw (← c.split_at.ensures.back) at h.fraction in cc (c.in_err-fraction.ensures.only _ fraction)

pub returns-in_err-offset-clause-only : goal.returns-in_err-offset-clause-only
returns-in_err-offset-clause-only c = λ d h.
    let fraction = rw (← c.split_at.ensures.back) at h.fraction in
    let same : c.in_ok-fraction.fraction ≡ d.fraction = cc (c.in_ok-fraction.ensures.only _ fraction) in
    let zone = rw (← c.split_at.ensures.back, ← same, ← c.split_at-2.ensures.back) at h.offset in
    cc (c.in_err-offset.ensures.only _ zone)

pub returns-in_err-clock-clause-only : goal.returns-in_err-clock-clause-only
returns-in_err-clock-clause-only c = λ d h. cc (c.in_err-clock.ensures.only _ h.clock)

pub returns-clause-only : goal.returns-clause-only
returns-clause-only c = λ d h.
    let clock : c.in_ok-clock.clock ≡ d.clock = cc (c.in_ok-clock.ensures.only _ h.clock) in
    let text = rw (← c.split_at.ensures.back) at h.fraction in
    let fraction : c.in_ok-fraction.fraction ≡ d.fraction = cc (c.in_ok-fraction.ensures.only _ text) in
    let zone = rw (← c.split_at.ensures.back, ← fraction, ← c.split_at-2.ensures.back) at h.offset in
    let offset : c.in_ok-offset.offset ≡ d.offset = cc (c.in_ok-offset.ensures.only _ zone) in
    rw (clock, fraction, offset) refl
