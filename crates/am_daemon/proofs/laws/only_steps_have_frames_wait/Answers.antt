use Rattle.am_daemon.proofs.Histories.{From, acts_on, any_call, calls_from, does_on, gives_on, loses_on, offers_on, stays_on}
use Rattle.am_daemon.specs.contracts.running.MemberAnyService.TheImpl.{ghosts}
use Rattle.am_daemon.proofs.laws.only_steps_have_frames_wait.Goals as goal

pub returns : goal.returns
returns g c = λ first between last queued calls there. calls_from (ghosts g.row.U g.U.Backend g.U.Backend-dict) (λ member. member.instance)
    (λ member. g.U.Backend.outbound member.server.state.backend) queued
    (any_call (ghosts g.row.U g.U.Backend g.U.Backend-dict)
    (From (ghosts g.row.U g.U.Backend g.U.Backend-dict) (λ member. member.instance) (λ member. g.U.Backend.outbound member.server.state.backend) queued)
    (λ s s' acts. acts_on queued _ _ _ _ _ acts.1) (λ s peer fault s' lost. loses_on queued peer _ _ _ _ lost.1) (λ s peer bytes s' answered. stays_on queued _ _ _ _ answered.1)
    (λ s peer answer more s' given. gives_on queued _ peer answer more _ _ _ _ given.1) (λ s peer bytes s' offered. offers_on queued peer bytes _ _ _ _ offered.1)
    (λ s peer bytes s' asked. stays_on queued _ _ _ _ asked.1) (λ s session deed s' session' did. does_on queued _ _ _ _ did.0.1) (λ s session s' begun. stays_on queued _ _ _ _ begun.2))
    first between last calls there
