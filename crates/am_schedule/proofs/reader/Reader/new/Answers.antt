use Rattle.std.proofs.Common.{refl}
use Rattle.am_schedule.specs.Schedules.{cluster_of, version_of}
use Rattle.am_schedule.proofs.reader.Reader.new.Goals as goal

pub returns-clause-stands : goal.returns-clause-stands
unfolding cluster_of version_of
returns-clause-stands c = record { cluster = refl; versions = λ i label. c.empty_table.ensures label i }
