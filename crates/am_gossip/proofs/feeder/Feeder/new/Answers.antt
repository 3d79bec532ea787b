use Rattle.std.proofs.Common.{◌≡◌}
use Rattle.am_gossip.specs.declared.header.HeaderProgress.TheVariants.{Before}
use Rattle.am_gossip.proofs.Waiting.{waits_in_header}
use Rattle.am_gossip.proofs.feeder.Feeder.new.Goals as goal

pub invariant_of-result : goal.invariant_of-result
invariant_of-result c = λ x is.
    let e : Before ≡ x = cc in
    rw (← e) (waits_in_header Before _ (λ h other. absurd cc) c.new.ensures.items)
