use Rattle.std.proofs.Common.{arith}
use Rattle.am_wire.proofs.Offsets.{empty_at_0, follows_behind}
use Rattle.am_wire.proofs.offset.Offset.part_of.Goals as goal

pub returns-then-self-eq0 : goal.returns-then-self-eq0
returns-then-self-eq0 c = λ part h. empty_at_0 (omega (arith, c.if-self-eq0.true)) h

pub split_part-requires : goal.split_part-requires
split_part-requires c = (c.requires.0, follows_behind (omega (arith, c.if-self-eq0.false)) c.requires.1)

pub returns : goal.returns
returns c = λ part h. (c.split_part.ensures part (follows_behind (omega (arith, c.if-self-eq0.false)) h)).0
