-- The head of a request (RFC 9112, sections 2 to 5), in the bytes that have come.
use Rattle.std.specs.Prelude.{ℕ, ◌≤◌, ◌⊎◌, List, [], ◌∷◌, length, take, map, if◌then◌else◌}
use Rattle.std.specs.Str.{str_eq_ignore_ascii_case}
use Rattle.httparse.specs.Grammar.{RequestHead, ReadsRequest, HasNoRequest, NeverHasRequest, MayBecomeRequest}
use Rattle.httparse.specs.Spans.{RequestExceeds, name_and_value}

-- a field of a head: its name, and its value without the surrounding white space
abbrev pub NamedValue : Type 0
NamedValue = List ℕ × List ℕ

-- the bytes within which a head has to end
abbrev pub window : List ℕ → List ℕ
window bytes = take 16384 bytes

-- a head is at the front, ends in the window, and has at most 64 fields
pub record HasHead (bytes : List ℕ) (h : RequestHead) : Type 0 where
  pub rest : List ℕ
  pub reads : ReadsRequest (window bytes) h rest
  pub room : length h.fields ≤ 64

-- no head is at the front yet, and more bytes can make one
pub record IsOpenHead (bytes : List ℕ) : Type 0 where
  pub none : HasNoRequest (window bytes)
  pub may_become : MayBecomeRequest (window bytes)

-- the head doesn't end in the window, or it has more than 64 fields
abbrev pub HasLargeHead : List ℕ → Type 0
HasLargeHead bytes = ((16384 ≤ length bytes) × IsOpenHead bytes) ⊎ RequestExceeds 64 (window bytes)

-- no head is at the front, whatever follows
abbrev pub HasBadHead : List ℕ → Type 0
HasBadHead bytes = NeverHasRequest (window bytes)

-- the fields of a head
abbrev pub fields_of : RequestHead → List NamedValue
fields_of h = map name_and_value h.fields

-- the values of the fields with this name, in any ASCII case (RFC 9110, section 5.1)
abbrev pub values_of : List ℕ → List NamedValue → List (List ℕ)
values_of name [] = []
values_of name (f ∷ fs) = if str_eq_ignore_ascii_case f.0 name then f.1 ∷ values_of name fs else values_of name fs
