use Rattle.std.proofs.Common.{◌≤◌, ◌-◌, IfSome, length, drop}
use Rattle.am_peer_auth.specs.Summings.{CoversIn}
use Rattle.am_peer_auth.proofs.Walked.{HasOpened}
use Rattle.am_peer_auth.proofs.opening.open_all.Given as goal

abbrev pub invariant-loop-frame : goal.invariant-loop-frame
invariant-loop-frame l = (l.used ≤ length l.bytes) × HasOpened l.origin.lock l.origin.sender.now l.origin.place l.bytes l.reached (drop l.used l.bytes) l.frames.items
    × IfSome l.known (CoversIn (drop l.used l.bytes))

abbrev pub decreases-loop-frame : goal.decreases-loop-frame
decreases-loop-frame l = length l.bytes - l.used
