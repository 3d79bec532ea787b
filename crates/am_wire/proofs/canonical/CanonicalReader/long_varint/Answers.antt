use Rattle.am_wire.specs.Varint.{shortest}
use Rattle.am_wire.proofs.Passings.{further}
use Rattle.am_wire.proofs.canonical.CanonicalReader.long_varint.Goals as goal

pub returns : goal.returns
returns c =
    further c.self.inside.text.now (shortest c.in_ok-value.value) c.self.inside.at c.in_ok-value.len c.args.self.now
    c.self.view_is c.in_ok-value.ensures.spelling
