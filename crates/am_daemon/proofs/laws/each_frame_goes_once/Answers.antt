use Rattle.std.proofs.Common.{refl}
use Rattle.am_backend.specs.CommitStates.{disk_of}
use Rattle.am_daemon.specs.Offers.{for_peers}
use Rattle.am_daemon.proofs.Accounts.{Has, acts_account, does_account, gives_account, loses_account, offers_account, over_calls, stays_account}
use Rattle.am_daemon.proofs.Histories.{any_call}
use Rattle.am_daemon.specs.contracts.running.MemberAnyService.TheImpl.{ghosts}
use Rattle.am_daemon.proofs.laws.each_frame_goes_once.Goals as goal

pub returns : goal.returns
returns g c = λ peer first between last calls.
    over_calls peer (ghosts g.row.U g.U.Backend g.U.Backend-dict) (λ member. member.instance)
    (λ member. for_peers g.U.Backend.outbound g.U.Backend.sealed_by member.server.state) (λ member. disk_of (g.U.Backend.store_of member.server.state.backend).commit_state)
    (any_call (ghosts g.row.U g.U.Backend g.U.Backend-dict)
    (Has peer (ghosts g.row.U g.U.Backend g.U.Backend-dict) (λ member. member.instance)
    (λ member. for_peers g.U.Backend.outbound g.U.Backend.sealed_by member.server.state) (λ member. disk_of (g.U.Backend.store_of member.server.state.backend).commit_state))
    (λ s s' acts. acts_account peer _ _ _ _ _ acts.1) (λ s to fault s' lost. loses_account peer _ to _ _ _ _ lost.0.1 lost.1)
    (λ s to bytes s' answered. stays_account peer _ _ _ _ _ answered.0.1 answered.1)
    (λ s to answer more s' given. gives_account peer _ _ to answer more _ _ _ _ given.0.1 given.1)
    (λ s to bytes s' offered. offers_account peer _ to bytes _ _ _ _ offered.0.1 offered.1)
    (λ s to bytes s' asked. stays_account peer _ _ _ _ _ asked.0.1 asked.1)
    (λ s session deed s' session' did. does_account peer _ _ _ _ _ _ (refl, refl) (refl, refl) did.0.1)
    (λ s session s' begun. stays_account peer _ _ _ _ _ begun.0.1 begun.2))
    first between last calls
