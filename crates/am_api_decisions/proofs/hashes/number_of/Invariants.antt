use Rattle.std.proofs.Common.{◌≡◌, ◌<◌, ◌^◌, drop}
use Rattle.am_api_decisions.specs.Hashes.{value_after}
use Rattle.am_api_decisions.proofs.hashes.number_of.Given as goal

-- with the digits that are left, the number is that of all
abbrev pub invariant-loop-digit : goal.invariant-loop-digit
invariant-loop-digit l = record {
  read : value_after l.number (drop l.digit-index l.digits) ≡ value_after 0 l.digits;
  within : l.number < 16 ^ l.digit-index;
}
