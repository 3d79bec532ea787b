use Rattle.am_wire.specs.Timestamps.{moment}
use Rattle.am_wire.proofs.SignedMoments.{moment_parts, parts_moment, timestamp_found, timestamp_read}
use Rattle.am_wire.proofs.laws.moments_are_signed_parts.Goals as goal

pub returns-clause-tested : goal.returns-clause-tested
returns-clause-tested c = λ es small. (moment_parts es small, λ is. (parts_moment es (moment es) small is).0)

pub returns-clause-only : goal.returns-clause-only
returns-clause-only c = λ es m small is. (parts_moment es m small is).1

pub returns-clause-read : goal.returns-clause-read
returns-clause-read c = λ at bytes m. (timestamp_found m at bytes, timestamp_read m at bytes)
