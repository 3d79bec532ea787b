use Rattle.am_gossip.proofs.Waiting.{whole_front}
use Rattle.am_gossip.proofs.reading.read_whole.Goals as goal

pub returns-in-Ok-clause-read : goal.returns-in-Ok-clause-read
returns-in-Ok-clause-read c = λ bytes is. whole_front _ bytes _ is _ c.in-Ok.ensures

pub returns-in_default : goal.returns-in_default
returns-in_default c = record { read = λ bytes is. whole_front _ bytes _ is _ (c.in-Err.ensures c.in_default.not-Memory); refused = tt }
