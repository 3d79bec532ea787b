use Rattle.std.proofs.Common.{[], arith}
use Rattle.am_gossip.proofs.Fronts.{length_ends, length_large, length_too_long}
use Rattle.am_gossip.proofs.header.read_length.Goals as goal

pub returns-else-size-limit : goal.returns-else-size-limit
returns-else-size-limit c = λ bytes at.
    let (text, is, groups) = at in
    length_ends bytes text _ _ _ is groups.places _ (c.in-Whole.ensures text groups []) (omega (arith, c.limit.ensures))

pub returns-then-size-limit : goal.returns-then-size-limit
returns-then-size-limit c = λ bytes at.
    let (text, is, groups) = at in
    length_large bytes text _ _ c.args.groups.places is groups.places _ (c.in-Whole.ensures text groups []) (omega (arith, c.limit.ensures))

pub returns-in-TooLong : goal.returns-in-TooLong
returns-in-TooLong c = λ bytes at.
    let (text, is, groups) = at in
    length_too_long bytes text _ _ c.args.groups.places is groups.places (c.in-TooLong.ensures text groups [])
