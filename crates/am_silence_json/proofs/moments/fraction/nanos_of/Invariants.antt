use Rattle.std.proofs.Common.{◌≡◌, ◌+◌, ◌*◌, ◌≤◌, drop}
use Rattle.am_silence_json.specs.Fractions.{fraction_nanos}
use Rattle.am_silence_json.proofs.moments.fraction.nanos_of.Given as goal

-- what the digits so far count, and what the others will
abbrev pub invariant-loop-digit : goal.invariant-loop-digit
invariant-loop-digit l =
    (l.nanos + fraction_nanos l.unit (drop l.digit-index l.digits) ≡ fraction_nanos 100_000_000 l.digits)
    × (l.nanos + 10 * l.unit ≤ 1_000_000_000)
