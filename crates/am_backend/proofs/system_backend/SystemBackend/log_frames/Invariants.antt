use Rattle.std.proofs.Common.{◌≡◌, take}
use Rattle.am_peers.specs.Queues.{frames_for}
use Rattle.am_backend.specs.Outbound.{outbound_of}
use Rattle.am_backend.specs.Stores.{IsLogged, store_of}
use Rattle.am_backend.proofs.system_backend.SystemBackend.log_frames.Given as goal

-- those of the frames so far that are for the disk are logged, and nothing else is done
abbrev pub invariant-loop-queued : goal.invariant-loop-queued
invariant-loop-queued g l = record {
  logged : IsLogged (frames_for l.disk (take l.queued-index l.queued-items)) (store_of l.fn.self) (store_of l.self);
  outbound : outbound_of l.self ≡ outbound_of l.fn.self;
  lock : l.self.lock ≡ l.fn.self.lock;
}
