use Rattle.std.proofs.Common.{◌∙◌}
use Rattle.am_wire.proofs.offset.Offset.text_of.Goals as goal

pub from_utf8_unchecked-requires : goal.from_utf8_unchecked-requires
from_utf8_unchecked-requires c = rw (c.part_of-part.ensures c.requires.0 c.requires.1) c.requires.2

pub returns : goal.returns
returns c = λ part h. c.from_utf8_unchecked.ensures ∙ c.part_of-part.ensures part h
