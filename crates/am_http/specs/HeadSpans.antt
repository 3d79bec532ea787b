-- The meaning of the parser's offsets for the bytes that have come.
use Rattle.std.specs.Prelude.{ℕ, ◌<◌, List, length}
use Rattle.httparse.specs.Spans.{IsRequestOf, IsRequestWithin}
use Rattle.httparse.specs.declared.spans.HeaderSpan.{HeaderSpan}
use Rattle.am_http.specs.Heads.{window, IsOpenHead, HasLargeHead, HasBadHead}
use Rattle.am_http.specs.declared.cause.Cause.TheVariants.{HeadTooLarge, BadHead}
use Rattle.am_http.specs.declared.head.Head.{Head}
use Rattle.am_http.specs.declared.head.Head.TheVariants.{Open, Whole, Refused}

-- this is what the front of the bytes holds, with the places of its parts and fields
abbrev pub IsHeadOf : List ℕ → List HeaderSpan → Head → Type 0
IsHeadOf bytes fields Open = (length bytes < 16384) × IsOpenHead bytes
IsHeadOf bytes fields (Whole spans) = IsRequestWithin (window bytes) fields spans × IsRequestOf (window bytes) fields spans
IsHeadOf bytes fields (Refused HeadTooLarge) = HasLargeHead bytes
IsHeadOf bytes fields (Refused BadHead) = HasBadHead bytes
IsHeadOf bytes fields (Refused _) = ⊥
