-- A reply in the making: a list is sifted by its filters and then written, a stretch at a time.
use Rattle.std.specs.Prelude.{◌≡◌, ◌-◌, ◌==◌, ℕ, Bool, true, false, List, length}
use Rattle.am_silence.specs.Mesh.{Mesh}
use Rattle.am_silence.specs.declared.state.State.{State}
use Rattle.am_api_silences.specs.Replies.{IsListReply, Says, memory_bytes}
use Rattle.am_api_silences.specs.ListFilters.{IsShorter}
use Rattle.am_api_silences.specs.declared.reply_builder.ReplyBuilder.{ReplyBuilder}
use Rattle.am_api_silences.specs.declared.reply_builder.ReplyBuilder.TheVariants as makings
use Rattle.am_api_silences.specs.declared.replies.ResponseBytes.{ResponseBytes}
use Rattle.am_api_silences.specs.declared.replies.ResponseBytes.TheVariants.{Own, Fixed}

-- A making is finished with this reply: the one that is whole; or the bytes of its list, of all that passes, if there is memory for them.
abbrev pub IsMadeOf : ReplyBuilder → ResponseBytes → Type 0
IsMadeOf (makings.Whole whole) reply = reply ≡ whole
IsMadeOf (makings.Filtering filtered) reply = Says (IsListReply filtered.rows) reply
IsMadeOf (makings.List list) reply = Says (IsListReply list.rows) reply

-- whatever reply the making is finished with is such a reply
abbrev pub Makes : (ResponseBytes → Type 0) → ReplyBuilder → Type 0
Makes IsSuch making = (reply : ResponseBytes) → IsMadeOf making reply → IsSuch reply

-- true if no silence is left to be judged or written
abbrev pub is_whole : ReplyBuilder → Bool
is_whole (makings.Whole whole) = true
is_whole (makings.Filtering filtered) = false
is_whole (makings.List list) = list.left == 0

-- the reply says that there is no memory for another
abbrev pub IsNoMemory : ResponseBytes → Type 0
IsNoMemory (Own bytes) = ⊥
IsNoMemory (Fixed bytes) = bytes.now ≡ memory_bytes

-- The making is the list of these silences, of which none is written; or there was no memory to begin it.
abbrev pub IsBegun : List (Mesh × State) → ReplyBuilder → Type 0
IsBegun rows (makings.List list) = list ≡ record { rows = rows; left = length rows }
IsBegun rows (makings.Filtering filtered) = ⊥
IsBegun rows (makings.Whole whole) = IsNoMemory whole

-- At most this many more silences are judged, or the list of those that pass begins; this many more silences are written, or all
-- that were left; or there was no memory for them. A whole reply stays as it is.
abbrev pub GoesOn : ℕ → ReplyBuilder → ReplyBuilder → Type 0
GoesOn count (makings.Whole whole) new = new ≡ makings.Whole whole
GoesOn count (makings.Filtering filtered) (makings.Filtering new) = IsShorter count filtered new
GoesOn count (makings.Filtering filtered) (makings.List list) = (filtered.left ≡ 0) × IsBegun filtered.rows (makings.List list)
GoesOn count (makings.Filtering filtered) (makings.Whole whole) = IsNoMemory whole
GoesOn count (makings.List list) (makings.List new) = new ≡ record list { left = list.left - count }
GoesOn count (makings.List list) (makings.Filtering filtered) = ⊥
GoesOn count (makings.List list) (makings.Whole whole) = IsNoMemory whole
