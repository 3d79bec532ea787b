use Rattle.std.proofs.Common.{◌≡◌}
use Rattle.am_silence_json.proofs.moments.read.read_moment.Goals as goal

pub returns-clause-only : goal.returns-clause-only
returns-clause-only c = λ m h.
    let text = rw (← c.as_bytes.ensures.value) at h.date_time in
    let same : c.in_ok-spelled.spelled ≡ h.spelled = cc (c.in_ok-spelled.ensures.only _ text) in
    let moment = rw (← same) at h.moment in
    c.moment_of.ensures.only m moment
