-- Requests in frames, beside what the frames bring.
use Rattle.std.specs.Prelude.{Bool, true, false, not, filter, map}
use Rattle.am_gossip.specs.declared.frame.Frame.{Frame}
use Rattle.am_gossip.specs.declared.frame.Frame.TheVariants.{Tick, Push, Pull}
use Rattle.am_http.specs.Sessions.{Spoken}

-- true if a frame asks for all that is held at the member to which it comes
abbrev pub is_push : Frame → Bool
is_push (Push state) = true
is_push _ = false

-- true if a frame asks for a collection
abbrev pub is_tick : Frame → Bool
is_tick Tick = true
is_tick _ = false

-- true if a frame brings something
abbrev pub brings : Frame → Bool
brings frame = not (is_tick frame)

-- the frame that brings the same and asks for no answer
abbrev pub quiet : Frame → Frame
quiet (Push state) = Pull state
quiet frame = frame

-- the output of a session without what its frames ask for: a Push is the Pull that it brings, and a Tick brings nothing
abbrev pub deferred : Spoken → Spoken
deferred said = record said { frames = map quiet (filter brings said.frames) }
