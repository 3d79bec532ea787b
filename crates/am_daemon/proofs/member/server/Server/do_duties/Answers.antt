use Rattle.std.proofs.Common.{◌∙◌, ap}
use Rattle.am_backend.specs.CommitStates.{disk_of}
use Rattle.am_daemon.specs.Offers.{ForPeers, for_peers}
use Rattle.am_daemon.specs.Sending.{Outlets}
use Rattle.am_daemon.proofs.Acting.{counts_on, counts_same}
use Rattle.am_daemon.proofs.member.server.Server.do_duties.Goals as goal

pub returns-clause-disk : goal.returns-clause-disk
returns-clause-disk g c = ap (λ (o : Outlets). disk_of o.store.commit_state) (c.look_around.ensures.stays ∙ c.pull.ensures.stays) ∙ c.save.ensures.disk ∙ c.tick.ensures.disk

pub returns-clause-peers : goal.returns-clause-peers
returns-clause-peers g c =
    let was : ForPeers = for_peers g.U.Backend.outbound g.U.Backend.sealed_by c.args.self.now.state in
    let ticked : ForPeers = for_peers g.U.Backend.outbound g.U.Backend.sealed_by c.tick.new.self.state in
    let saved : ForPeers = for_peers g.U.Backend.outbound g.U.Backend.sealed_by c.save.new.self.state in
    let is : ForPeers = for_peers g.U.Backend.outbound g.U.Backend.sealed_by c.look_around.new.self in
    counts_on was ticked is c.tick.ensures.peers (counts_on ticked saved is c.save.ensures.peers (counts_same saved is (c.look_around.ensures.peers ∙ c.pull.ensures.peers)))
