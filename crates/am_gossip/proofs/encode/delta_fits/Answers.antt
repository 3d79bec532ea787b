use Rattle.std.proofs.Common.{◌≡◌, arith, sym, ◌∙◌, length}
use Rattle.std.proofs.lemmas.Bool.{lt-leb}
use Rattle.am_gossip.proofs.Limits.{part_over}
use Rattle.am_gossip.proofs.encode.delta_fits.Goals as goal

pub returns-else-size-limit : goal.returns-else-size-limit
returns-else-size-limit c = λ part key size.
    let over = c.if-size-limit.false in
    let limit = c.limit-limit.ensures in
    lt-leb c.args.size c.limit-limit.result over ∙ sym (part_over part 4_194_304 (omega (arith, over, limit, size)))

pub returns-then-size-limit : goal.returns-then-size-limit
returns-then-size-limit c = λ part key size.
    let within = c.if-size-limit.true in
    let limit = c.limit-limit.ensures in
    let exact : length part.bytes ≡ c.args.size = omega (arith, within, limit, size) in
    let len = c.part_size.ensures.exact part key exact in
    cc
