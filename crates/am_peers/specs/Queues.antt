-- The frames that wait to be sent, split by addressee.
use Rattle.std.specs.Prelude.{ℕ, ◌==◌, not, List, map}
use Rattle.std.specs.List.{filter}
use Rattle.am_gossip.specs.declared.frame.Frame.{Frame}

-- the frames for a place, in their order
abbrev pub frames_for : ℕ → List (ℕ × Frame) → List Frame
frames_for place queued = map (λ q. q.1) (filter (λ q. q.0 == place) queued)

-- the frames for all other places, in their order
abbrev pub frames_beside : ℕ → List (ℕ × Frame) → List (ℕ × Frame)
frames_beside place queued = filter (λ q. not (q.0 == place)) queued
