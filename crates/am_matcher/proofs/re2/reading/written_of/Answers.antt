use Rattle.am_matcher.proofs.Re2Readings.{faulty}
use Rattle.am_matcher.proofs.re2.reading.written_of.Goals as goal

pub returns-in-Some : goal.returns-in-Some
returns-in-Some c =
    faulty c.args.characters.now c.args.reading c.in_ok-at.field-0 c.in-Some.at c.requires c.in_ok-at.ensures c.in-Some.is
