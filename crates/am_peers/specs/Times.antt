-- The two times in seconds that the laws on all replicas ask for, of members that pull by themselves.
use Rattle.std.specs.Prelude.{ℕ, ◌+◌, ◌*◌}

-- The longest time of a frame: it is written and read within the limit of a connection each, and clocks may differ by one second.
abbrev pub flight_time : ℕ → ℕ
flight_time limit = 2 * limit + 1

-- The longest time of a spread: two pulls in a row may be lost, the third begins three intervals later at the latest, and is a
-- frame there and one back.
abbrev pub spread_time : ℕ → ℕ → ℕ
spread_time every limit = 3 * every + 2 * flight_time limit + 1
