-- The kinds of refusals.
use Rattle.am_silence.specs.declared.error.SilenceError.{SilenceError}
use Rattle.am_silence.specs.declared.error.SilenceError.TheVariants as errors
use Rattle.am_replay.specs.declared.refusal.LineRefusal.{LineRefusal}
use Rattle.am_replay.specs.declared.refusal.LineRefusal.TheVariants as refusals

-- the kind of a refusal to post or end a silence
abbrev pub kind_of : SilenceError → LineRefusal
kind_of errors.NotFound = refusals.NotFound
kind_of errors.NoMatcher = refusals.NoMatcher
kind_of errors.EmptyName = refusals.EmptyName
kind_of errors.BadPattern = refusals.BadPattern
kind_of errors.AllMatchEmpty = refusals.AllMatchEmpty
kind_of errors.EndNotAfterStart = refusals.EndNotAfterStart
kind_of errors.EndInPast = refusals.EndInPast
kind_of errors.AlreadyExpired = refusals.AlreadyExpired
kind_of (errors.Newer held) = refusals.Newer
kind_of errors.IdInUse = refusals.IdInUse
kind_of errors.TooLarge = refusals.TooLarge
kind_of errors.Memory = refusals.Memory
