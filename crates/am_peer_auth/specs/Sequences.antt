-- The place of a frame in its connection.
use Rattle.std.specs.Prelude.{ℕ, ◌+◌, List}
use Rattle.am_peer_auth.specs.declared.sequence.Sequence.{Sequence}

-- the place of the first frame after a challenge
abbrev pub first_in : List ℕ → Sequence
first_in challenge = record { challenge = challenge; number = 0 }

-- the place `count` frames later
abbrev pub after : ℕ → Sequence → Sequence
after count place = record place { number = place.number + count }

-- the place of the next frame
abbrev pub next_in : Sequence → Sequence
next_in place = after 1 place
