use Rattle.std.proofs.Common.{ap}
use Rattle.am_cluster.proofs.Outgoing.{collecting_sends}
use Rattle.am_cluster.proofs.sent.collecting_leaves_nothing_out.Goals as goal

pub returns-clause-frames : goal.returns-clause-frames
returns-clause-frames c = λ old new event now outcome collecting step. ap (λ s. s.frames) (collecting_sends old event now outcome new collecting step)

pub returns-clause-memory : goal.returns-clause-memory
returns-clause-memory c = λ old new event now outcome collecting step. ap (λ s. s.memory) (collecting_sends old event now outcome new collecting step)

pub returns-clause-limit : goal.returns-clause-limit
returns-clause-limit c = λ old new event now outcome collecting step. ap (λ s. s.limit) (collecting_sends old event now outcome new collecting step)
