-- Moments as a schedule writes them, in seconds since 1970.
use Rattle.std.specs.Prelude.{ℕ, ◌+◌, ◌-◌, ◌*◌, ◌^◌, Bool, List, length, Option, None, option_map, option_and_then}
use Rattle.std.specs.Prelude.{nat_le, nat_lt, ◌==◌, if◌then◌else◌}
use Rattle.std.specs.List.{position_or_len, before_first, after_first}
use Rattle.am_version_order.specs.Moments.{seconds_before_1970}
use Rattle.am_schedule.specs.Numbers.{count_in, number_within}

-- the moment of seconds and nanoseconds since 1970, in nanoseconds since the first one
abbrev pub moment_at : ℕ → ℕ → ℕ
moment_at seconds nanos = (seconds + seconds_before_1970) * 1_000_000_000 + nanos

-- the moment `nanos` nanoseconds after a whole number of seconds since 1970
abbrev pub moment_behind : ℕ → List ℕ → Option ℕ
moment_behind nanos digits = option_map (λ seconds. moment_at seconds nanos) (number_within 0 253_402_300_799 digits)

-- the moment of whole seconds since 1970
unfoldable pub whole_moment_in : List ℕ → Option ℕ
whole_moment_in word = moment_behind 0 word

-- the nanoseconds of a fraction of 1 to 9 digits
unfoldable pub fraction_in : List ℕ → Option ℕ
fraction_in digits = if nat_le (length digits) 9 then option_map (λ n. n * 10 ^ (9 - length digits)) (count_in digits) else None

-- the point before a fraction
abbrev pub is_point : ℕ → Bool
is_point byte = byte == 46

-- the moment of seconds since 1970, with a fraction after a point if there is one
unfoldable pub moment_in : List ℕ → Option ℕ
moment_in word =
    if nat_lt (position_or_len is_point word) (length word)
    then option_and_then (λ nanos. moment_behind nanos (before_first is_point word)) (fraction_in (after_first is_point word))
    else moment_behind 0 word
