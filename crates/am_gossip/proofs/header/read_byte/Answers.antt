use Rattle.am_gossip.proofs.Fronts.{header_stays}
use Rattle.am_gossip.proofs.header.read_byte.Goals as goal

pub returns-in-InPayload : goal.returns-in-InPayload
returns-in-InPayload c = rw c.in-InPayload.is (λ before at. header_stays before _ _ _ _ at)
