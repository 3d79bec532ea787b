-- The rest of the table of statuses: the lines of refused steps.
use Rattle.std.specs.Prelude.{codes}
use Rattle.am_silence.specs.declared.error.SilenceError.{SilenceError}
use Rattle.am_silence.specs.declared.error.SilenceError.TheVariants as errors
use Rattle.am_http.specs.Lines.{RefusalLine, line}

-- the line of a refused request (status codes of RFC 9110, section 15)
abbrev pub refused_line : SilenceError → RefusalLine
refused_line errors.NotFound = line 404 (codes "silence not found")
refused_line errors.NoMatcher = line 400 (codes "no matcher")
refused_line errors.EmptyName = line 400 (codes "empty label name")
refused_line errors.BadPattern = line 400 (codes "bad pattern")
refused_line errors.AllMatchEmpty = line 400 (codes "all matchers match the empty text")
refused_line errors.EndNotAfterStart = line 400 (codes "end not after start")
refused_line errors.EndInPast = line 400 (codes "end in the past")
refused_line errors.AlreadyExpired = line 500 (codes "silence already expired")
refused_line (errors.Newer held) = line 500 (codes "newer version held")
refused_line errors.IdInUse = line 500 (codes "id in use")
refused_line errors.TooLarge = line 500 (codes "silence too large")
refused_line errors.Memory = line 500 (codes "out of memory")

-- the line of a moment that is before that of the last event
abbrev pub clock_line : RefusalLine
clock_line = line 500 (codes "clock ran back")

-- the line of a growth that was refused
abbrev pub memory_line : RefusalLine
memory_line = line 500 (codes "out of memory")
