use Rattle.std.proofs.Common.{◌<◌, ◌/◌, ◌≡◌, arith, refl}
use Rattle.std.proofs.lemmas.Int.{ints}
use Rattle.am_silence_json.proofs.Bytes.{utf8_text}
use Rattle.am_silence_json.specs.Clocks.{clock_seconds}
use Rattle.am_silence_json.proofs.moments.write.write_moment.Goals as goal

pub invariant_of-result : goal.invariant_of-result
invariant_of-result c =
    let few : c.parts-seconds.result.1 / 1_000_000 < 1000 = omega (arith, c.parts-seconds.ensures.range.below_second) in
    let bound = c.clock_at-clock.ensures.bound in
    rw c.bytes_of-bytes.ensures (utf8_text _ _ c.clock_at-clock.ensures.real bound.0 bound.1 bound.2 few)

pub returns : goal.returns
returns c =
    let same : clock_seconds c.clock_at-clock.result ≡ c.parts-seconds.result.0 =
    omega (arith, ints, c.clock_at-clock.ensures.value, c.since_least.ensures) in
    record {
      clock = c.clock_at-clock.result;
      nanos = c.parts-seconds.result.1;
      real = c.clock_at-clock.ensures.real;
      parts = rw same c.parts-seconds.ensures.range;
      moment = rw (same, c.parts-seconds.ensures.value) refl;
      spelled = c.bytes_of-bytes.ensures;
    }
