use Rattle.am_dedup.specs.Decisions.{set_of}
use Rattle.am_dedup.proofs.decision.decide.Goals as goal

pub returns-in_default : goal.returns-in_default
returns-in_default c = rw c.in_default.is (c.decide_first.ensures (set_of c.args.resolved.now) c.args.repeat c.args.send_resolved c.args.now)
