-- Answers to a push/pull: the states of a replica after a header and its nodes, or an error in words; either may be compressed.
use Rattle.std.specs.Prelude.{ℕ, zero, suc, nat_lt, ◌==◌, if◌then◌else◌, List, [], ◌∷◌, length, codes, Result, Ok, Err}
use Rattle.am_memberlist.specs.declared.lzw_error.LzwError.{LzwError}
use Rattle.am_memberlist.specs.Lzw.{unpacked}
use Rattle.am_memberlist.specs.declared.error.AnswerError.{AnswerError}
use Rattle.am_memberlist.specs.declared.error.AnswerError.TheVariants.{Nothing, Kind, Compression, Nodes, Length}
use Rattle.am_memberlist.specs.declared.answer.Said.{Said}
use Rattle.am_memberlist.specs.declared.answer.Said.TheVariants as said
use Rattle.am_memberlist.specs.Answers.{◌>>=◌, unpacking_fault}
use Rattle.am_memberlist.specs.Msgpack.{map_at, value_in, number_of, raw_of}

-- the content of a replica's answer
pub data SaidAt : Type 0 where
  states : List ℕ → SaidAt
  error : List ℕ → SaidAt

-- the bytes, if there are exactly `size` of them
abbrev pub exactly : ℕ → List ℕ → Result (List ℕ) AnswerError
exactly size bytes = if length bytes == size then Ok bytes else Err Length

-- the bytes after a number of nodes, each of which is a map
unfoldable pub behind_nodes : ℕ → List ℕ → Result (List ℕ) AnswerError
behind_nodes zero bytes = Ok bytes
behind_nodes (suc count) bytes = map_at bytes >>= λ node. behind_nodes count node.1

-- the states after a header and its at most 65,536 nodes, with nothing after them
unfoldable pub states_in : List ℕ → Result (List ℕ) AnswerError
states_in bytes = map_at bytes >>= λ header.
    number_of (value_in (codes "Nodes") header.0) >>= λ count.
    number_of (value_in (codes "UserStateLen") header.0) >>= λ size.
    (if nat_lt 65_536 count then Err Nodes else behind_nodes count header.1) >>= exactly size

-- the words of an error
unfoldable pub words_in : List ℕ → Result (List ℕ) AnswerError
words_in bytes = map_at bytes >>= λ error. raw_of (value_in (codes "Error") error.0)

-- the content of a message
unfoldable pub message_in : List ℕ → Result SaidAt AnswerError
message_in [] = Err Nothing
message_in (kind ∷ bytes) =
    if kind == 6 then (states_in bytes >>= λ rest. Ok (states rest))
    else if kind == 13 then (words_in bytes >>= λ words. Ok (error words))
    else Err (Kind kind)

-- the result of unpacking, as a part of an answer
abbrev pub as_part : Result (List ℕ) LzwError → Result (List ℕ) AnswerError
as_part (Ok bytes) = Ok bytes
as_part (Err e) = Err (unpacking_fault e)

-- the compressed bytes, after the type of a message
unfoldable pub packed_in : List ℕ → Result (List ℕ) AnswerError
packed_in bytes = map_at bytes >>= λ parts.
    number_of (value_in (codes "Algo") parts.0) >>= λ way.
    raw_of (value_in (codes "Buf") parts.0) >>= λ packed.
    exactly 0 parts.1 >>= λ none.
    (if way == 0 then Ok packed else Err (Compression way))

-- the message in a compressed one, which has at most `most` bytes
unfoldable pub unpacked_in : ℕ → List ℕ → Result (List ℕ) AnswerError
unpacked_in most bytes = packed_in bytes >>= λ packed. as_part (unpacked (length packed) packed most 0 0 [] [])

-- the message of an answer, unpacked if it is compressed
unfoldable pub plain_of : ℕ → List ℕ → Result (List ℕ) AnswerError
plain_of most [] = Ok []
plain_of most (kind ∷ bytes) = if kind == 9 then unpacked_in most bytes else Ok (kind ∷ bytes)

-- the code's result, without its place in memory
abbrev pub said_seen : Result Said AnswerError → Result SaidAt AnswerError
said_seen (Ok (said.States bytes)) = Ok (states bytes.now)
said_seen (Ok (said.Error bytes)) = Ok (error bytes.now)
said_seen (Err e) = Err e
