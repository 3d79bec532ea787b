use Rattle.std.proofs.Common.{◌≡◌, ℕ, List, [], ◌∷◌, ◌∙◌, arith, refl, subst, sym, take}
use Rattle.std.proofs.lemmas.List.{take_all}
use Rattle.am_gossip.specs.declared.frame.Frame.{Frame}
use Rattle.am_peers.specs.Queues.{frames_for}
use Rattle.am_backend.specs.CommitStates.{disk_of}
use Rattle.am_backend.specs.Stores.{IsLogged, store_of}
use Rattle.am_backend.proofs.Logged.{all_beside, at_disk, beside_disk, logged_more, logged_none}
use Rattle.am_backend.proofs.system_backend.SystemBackend.log_frames.Goals as goal

pub loop-queued-init : goal.loop-queued-init
loop-queued-init g c = record { logged = logged_none (store_of c.args.self.now); outbound = refl; lock = refl }

pub loop-queued-preserved : goal.loop-queued-preserved
loop-queued-preserved g c =
    record {
      logged = logged_more c.in-Some.disk c.deref-queued-items.result.now c.loop-queued.queued-index c.queued-item.result (store_of c.args.self.now) (store_of c.loop-queued.self)
          (store_of c.log_queued.new.self) c.loop-queued-test.true c.loop-queued.invariant.logged
          (subst (λ (queued : ℕ × Frame). IsLogged (frames_for c.in-Some.disk (queued ∷ [])) (store_of c.loop-queued.self) (store_of c.log_queued.new.self)) c.queued-item.is c.log_queued.ensures.logged);
      outbound = c.log_queued.ensures.outbound ∙ c.loop-queued.invariant.outbound;
      lock = c.log_queued.ensures.lock ∙ c.loop-queued.invariant.lock;
    }

pub returns-clause-peers : goal.returns-clause-peers
returns-clause-peers g c =
    beside_disk (disk_of c.args.self.now.commit_state) c.in-Some.disk c.args.frames.items c.drop_frames_for.new.frames.items (sym c.disk.ensures ∙ c.in-Some.is) c.drop_frames_for.ensures

pub returns-clause-logged : goal.returns-clause-logged
returns-clause-logged g c =
    let all = take_all c.loop-queued.queued-index c.deref-queued-items.result.now (omega (arith, c.loop-queued-test.false)) in
    let same : take c.loop-queued.queued-index c.deref-queued-items.result.now ≡ c.args.frames.items = all ∙ c.deref-queued-items.ensures.value in
    at_disk (disk_of c.args.self.now.commit_state) c.in-Some.disk
    (λ place. IsLogged (frames_for place c.args.frames.items) (store_of c.args.self.now) (store_of c.loop-queued.self)) (sym c.disk.ensures ∙ c.in-Some.is)
    (subst (λ (queued : List (ℕ × Frame)). IsLogged (frames_for c.in-Some.disk queued) (store_of c.args.self.now) (store_of c.loop-queued.self)) same c.loop-queued.invariant.logged)

pub returns-clause-goes_on : goal.returns-clause-goes_on
returns-clause-goes_on g c = c.loop-queued.invariant.logged.goes_on
