use Rattle.std.proofs.Common.{◌≡◌, ◌++◌}
use Rattle.am_peers.specs.Queues.{frames_beside, frames_for}
use Rattle.am_peers.proofs.queue.split_by_peer.Given as goal

abbrev pub invariant-loop-queued : goal.invariant-loop-queued
invariant-loop-queued l =
    (l.own.items ≡ frames_for l.place l.yielded)
    × (l.others.items ≡ frames_beside l.place l.yielded)
    × (l.fn.frames.items ≡ l.yielded ++ l.queued-iterator.rest.items)
    × (l.fn.place ≡ l.place)
