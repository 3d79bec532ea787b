-- MessagePack as far as memberlist writes it (github.com/msgpack/msgpack, spec.md): maps of scalars with texts as keys.
use Rattle.std.specs.Prelude.{ℕ, zero, suc, ◌-◌, Bool, nat_lt, ◌==◌, ◌||◌, if◌then◌else◌, List, [], ◌∷◌, length, take, drop, bytes_eq, Option, Some, None, Result, Ok, Err, find}
use Rattle.std.specs.Slice.Scan.{big_endian}
use Rattle.am_memberlist.specs.declared.error.AnswerError.{AnswerError}
use Rattle.am_memberlist.specs.declared.error.AnswerError.TheVariants.{Cut, Form}
use Rattle.am_memberlist.specs.declared.msgpack.Width.{Width}
use Rattle.am_memberlist.specs.declared.msgpack.Width.TheVariants as widths
use Rattle.am_memberlist.specs.declared.msgpack.Lead.{Lead}
use Rattle.am_memberlist.specs.declared.msgpack.Lead.TheVariants as leads
use Rattle.am_memberlist.specs.Answers.{◌>>=◌}

-- a value in a map
pub data ValueAt : Type 0 where
  number : ℕ → ValueAt
  raw : List ℕ → ValueAt
  word : ValueAt

-- a key with its value
pub record PairAt : Type 0 where
  pub key : List ℕ
  pub value : ValueAt

-- the number of bytes of a number
abbrev pub bytes_of : Width → ℕ
bytes_of widths.One = 1
bytes_of widths.Two = 2
bytes_of widths.Four = 4
bytes_of widths.Eight = 8

-- the width of the number after the first byte of a scalar, if the scalar is a number
abbrev pub number_width : ℕ → Option Width
number_width byte =
    if byte == 204 then Some widths.One
    else if byte == 205 then Some widths.Two
    else if byte == 206 then Some widths.Four
    else if byte == 207 then Some widths.Eight
    else None

-- the width of the length after the first byte of a scalar, if the scalar is a text
abbrev pub text_width : ℕ → Option Width
text_width byte =
    if byte == 217 then Some widths.One
    else if byte == 218 then Some widths.Two
    else if byte == 219 then Some widths.Four
    else None

-- the width of the length after the first byte of a scalar, if the scalar is bytes and no text
abbrev pub blob_width : ℕ → Option Width
blob_width byte =
    if byte == 196 then Some widths.One
    else if byte == 197 then Some widths.Two
    else if byte == 198 then Some widths.Four
    else None

-- the first byte of nil, false or true
abbrev pub is_word : ℕ → Bool
is_word byte = byte == 192 || byte == 194 || byte == 195

-- the meaning of a first byte that is no word and doesn't contain its number
abbrev pub long_lead : Option Width → Option Width → Option Width → Lead
long_lead (Some width) of_text of_blob = leads.NumberOf width
long_lead None (Some width) of_blob = leads.RawOf width
long_lead None None (Some width) = leads.RawOf width
long_lead None None None = leads.Other

-- the meaning of the first byte of a scalar
abbrev pub lead_of : ℕ → Lead
lead_of byte =
    if nat_lt byte 128 then leads.Number byte
    else if is_word byte then leads.Word
    else if nat_lt byte 160 then leads.Other
    else if nat_lt byte 192 then leads.Raw (byte - 160)
    else long_lead (number_width byte) (text_width byte) (blob_width byte)

-- the first `count` bytes, and those after them
abbrev pub cut_at : ℕ → List ℕ → Result (List ℕ × List ℕ) AnswerError
cut_at count bytes = if nat_lt (length bytes) count then Err Cut else Ok (take count bytes, drop count bytes)

-- the number in the first bytes, the highest first, and the bytes after it
abbrev pub number_in : Width → List ℕ → Result (ℕ × List ℕ) AnswerError
number_in width bytes = cut_at (bytes_of width) bytes >>= λ parts. Ok (big_endian 0 parts.0, parts.1)

-- the bytes after their length, which is a number of this width, and the bytes after them
abbrev pub text_in : Width → List ℕ → Result (List ℕ × List ℕ) AnswerError
text_in width bytes = number_in width bytes >>= λ size. cut_at size.0 size.1

-- bytes as a value
abbrev pub as_raw : List ℕ × List ℕ → Result (ValueAt × List ℕ) AnswerError
as_raw parts = Ok (raw parts.0, parts.1)

-- the scalar with this meaning of its first byte, and the bytes after it
abbrev pub scalar_behind : Lead → List ℕ → Result (ValueAt × List ℕ) AnswerError
scalar_behind (leads.Number n) bytes = Ok (number n, bytes)
scalar_behind leads.Word bytes = Ok (word, bytes)
scalar_behind (leads.Raw size) bytes = cut_at size bytes >>= as_raw
scalar_behind (leads.NumberOf width) bytes = number_in width bytes >>= λ n. Ok (number n.0, n.1)
scalar_behind (leads.RawOf width) bytes = text_in width bytes >>= as_raw
scalar_behind leads.Other bytes = Err Form

-- the scalar at the front of the bytes, and the bytes after it
unfoldable pub scalar_at : List ℕ → Result (ValueAt × List ℕ) AnswerError
scalar_at [] = Err Cut
scalar_at (first ∷ bytes) = scalar_behind (lead_of first) bytes

-- the text of a scalar that is one
abbrev pub text_of : ValueAt → Result (List ℕ) AnswerError
text_of (raw text) = Ok text
text_of (number n) = Err Form
text_of word = Err Form

-- the key and the value at the front of the bytes, and the bytes after them
unfoldable pub pair_at : List ℕ → Result (PairAt × List ℕ) AnswerError
pair_at bytes = scalar_at bytes >>= λ key. text_of key.0 >>= λ text.
    scalar_at key.1 >>= λ value. Ok (record { key = text; value = value.0 }, value.1)

-- the number of pairs in the map at the front of the bytes, and the bytes after its first one
abbrev pub count_at : List ℕ → Result (ℕ × List ℕ) AnswerError
count_at [] = Err Cut
count_at (first ∷ bytes) = if nat_lt first 128 then Err Form else if nat_lt first 144 then Ok (first - 128, bytes) else Err Form

-- a pair before others
abbrev pub with_pair : PairAt → List PairAt × List ℕ → Result (List PairAt × List ℕ) AnswerError
with_pair pair others = Ok (pair ∷ others.0, others.1)

-- a number of pairs, and the bytes after them
unfoldable pub pairs_at : ℕ → List ℕ → Result (List PairAt × List ℕ) AnswerError
pairs_at zero bytes = Ok ([], bytes)
pairs_at (suc count) bytes = pair_at bytes >>= λ pair. pairs_at count pair.1 >>= with_pair pair.0

-- the pairs of the map at the front of the bytes, and the bytes after it
unfoldable pub map_at : List ℕ → Result (List PairAt × List ℕ) AnswerError
map_at bytes = count_at bytes >>= λ count. pairs_at count.0 count.1

-- the first pair with a key
abbrev pub value_in : List ℕ → List PairAt → Option PairAt
value_in key pairs = find (λ pair. bytes_eq pair.key key) pairs

-- the number at a key, or 0 if the key is missing
abbrev pub number_of : Option PairAt → Result ℕ AnswerError
number_of None = Ok 0
number_of (Some pair) = elim pair.value [ number n ↦ Ok n | _ ↦ Err Form ]

-- the bytes at a key
abbrev pub raw_of : Option PairAt → Result (List ℕ) AnswerError
raw_of None = Err Form
raw_of (Some pair) = text_of pair.value
