-- The kinds of matchers, and their numbers in an enum field (silencepb: EQUAL, REGEXP, NOT_EQUAL, NOT_REGEXP).
use Rattle.std.specs.Prelude.{ℕ, Bool, true, false, ◌==◌, if◌then◌else◌}
use Rattle.am_silence.specs.declared.matcher.MatcherKind.{MatcherKind}
use Rattle.am_silence.specs.declared.matcher.MatcherKind.TheVariants as kinds

-- the number of a kind
abbrev pub kind_code : MatcherKind → ℕ
kind_code kinds.Equal = 0
kind_code kinds.Regexp = 1
kind_code kinds.NotEqual = 2
kind_code kinds.NotRegexp = 3

-- the kind with a number below 4
abbrev pub kind_of : ℕ → MatcherKind
kind_of n = if n == 0 then kinds.Equal else (if n == 1 then kinds.Regexp else (if n == 2 then kinds.NotEqual else kinds.NotRegexp))

-- the pattern is a regular expression
abbrev pub is_regexp : MatcherKind → Bool
is_regexp kinds.Equal = false
is_regexp kinds.Regexp = true
is_regexp kinds.NotEqual = false
is_regexp kinds.NotRegexp = true
