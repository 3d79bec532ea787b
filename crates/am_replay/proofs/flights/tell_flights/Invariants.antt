use Rattle.std.proofs.Common.{◌≡◌, ◌++◌, take, string_bytes}
use Rattle.std.specs.List.{flat_map}
use Rattle.am_replay.specs.Texts.{flight_text}
use Rattle.am_replay.proofs.flights.tell_flights.Given as goal

abbrev pub invariant-loop-flight : goal.invariant-loop-flight
invariant-loop-flight l =
    string_bytes l.out ≡ string_bytes l.fn.out ++ flat_map (flight_text l.cluster) (take l.flight-index l.cluster.flights)
