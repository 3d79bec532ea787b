-- The bytes of replies (API v2, in HTTP/1.1 and JSON).
use Rattle.std.specs.Prelude.{◌≡◌, ℕ, List, [], ◌++◌, length, Option, None, Result, Ok, Err, if◌then◌else◌}
use Rattle.std.specs.Borrow.{Bor}
use Rattle.http.specs.StatusCode.{IsStatusCode}
use Rattle.serde_json.specs.Data.{Data, array, string}
use Rattle.serde_json.specs.View.{items_of}
use Rattle.serde_json.specs.Written.{compact_text}
use Rattle.am_silence.specs.Mesh.{Mesh}
use Rattle.am_silence.specs.declared.matcher.Matcher.{Matcher}
use Rattle.am_silence.specs.declared.state.State.{State}
use Rattle.am_silence_json.specs.Gettables.{IsGettable, AreGettable, posted_data}
use Rattle.am_http.specs.Lines.{RefusalLine, line_seen}
use Rattle.am_http.specs.Replies.{head_bytes, reply_bytes}
use Rattle.am_http.specs.declared.refusal.Refusal.{Refusal}
use Rattle.am_instance.specs.declared.reply.Reply.{Reply}
use Rattle.am_instance.specs.declared.reply.Reply.TheVariants as replies
use Rattle.am_api_silences.specs.ListFilters.{passing}
use Rattle.am_api_silences.specs.Table.{refused_line, memory_line}
use Rattle.am_api_silences.specs.declared.replies.ResponseBytes.{ResponseBytes}
use Rattle.am_api_silences.specs.declared.replies.ResponseBytes.TheVariants.{Own, Fixed}

-- the reply 200 with this body
abbrev pub good_bytes : List ℕ → List ℕ
good_bytes body = reply_bytes 200 None body

-- the reply of a line of the table of statuses: its text as a string of JSON, unless it is told to HEAD
abbrev pub line_bytes : RefusalLine → List ℕ
line_bytes line =
    let body = compact_text (string line.text) in
    if line.bare then head_bytes line.status line.allow (length body) else reply_bytes line.status line.allow body

-- the bytes of the reply that lists these silences
abbrev pub IsListReply : List (Mesh × State) → List ℕ → Type 0
IsListReply rows bytes = (ds : List Data) × AreGettable rows ds × (bytes ≡ good_bytes (compact_text (array (items_of ds))))

-- The bytes of a reply to a request. Only requests on silences have a body.
abbrev pub IsReplyBytes : Reply → List ℕ → Type 0
IsReplyBytes (replies.Silences rows) bytes = IsListReply rows.items bytes
IsReplyBytes (replies.Silence version state) bytes = (d : Data) × IsGettable version.silence state d × (bytes ≡ good_bytes (compact_text d))
IsReplyBytes (replies.Posted id) bytes = bytes ≡ good_bytes (compact_text (posted_data id))
IsReplyBytes (replies.Refused error) bytes = bytes ≡ line_bytes (refused_line error)
IsReplyBytes _ bytes = bytes ≡ good_bytes []

-- the bytes of a reply, of whose silences those are listed that pass all filters
abbrev pub IsSiftedBytes : List Matcher → Reply → List ℕ → Type 0
IsSiftedBytes filters (replies.Silences rows) bytes = IsListReply (passing filters rows.items) bytes
IsSiftedBytes filters reply bytes = IsReplyBytes reply bytes

-- the bytes of a reply, or of a refusal
abbrev pub IsSaid : Result (Bor Reply) (Bor Refusal) → List ℕ → Type 0
IsSaid (Ok reply) bytes = IsReplyBytes reply.now bytes
IsSaid (Err refusal) bytes = bytes ≡ line_bytes (line_seen refusal.now)

-- the bytes begin with the head of a reply with this status
pub record HasStatus (status : ℕ) (bytes : List ℕ) : Type 0 where
  pub code : IsStatusCode status
  pub allow : Option (List ℕ)
  pub count : ℕ
  pub body : List ℕ
  pub bytes_are : bytes ≡ head_bytes status allow count ++ body

-- the bytes begin with the head of a reply with some status
abbrev pub HasSomeStatus : List ℕ → Type 0
HasSomeStatus bytes = (status : ℕ) × HasStatus status bytes

-- ---- bytes that go out

-- the bytes of a reply, its own or a constant
abbrev pub bytes_of : ResponseBytes → List ℕ
bytes_of (Own bytes) = bytes.items
bytes_of (Fixed bytes) = bytes.now

-- the reply for when there is no memory for another
abbrev pub memory_bytes : List ℕ
memory_bytes = line_bytes memory_line

-- the bytes are such a reply; or there was no memory for it, and that is what they say
abbrev pub Says : (List ℕ → Type 0) → ResponseBytes → Type 0
Says IsMeant (Own bytes) = IsMeant bytes.items
Says IsMeant (Fixed bytes) = bytes.now ≡ memory_bytes
