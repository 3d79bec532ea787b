-- A request that was written is read again.
use Rattle.std.proofs.Common.{◌≡◌, ℕ, ◌+◌, ◌<◌, Bool, true, false, ltb, List, [], ◌∷◌, ◌++◌, length, codes, Result, Ok, refl, ap, ◌∙◌, arith, length-append}
use Rattle.std.specs.Int.{w16, w32, to_be_bytes}
use Rattle.std.specs.Slice.Scan.{big_endian}
use Rattle.std.proofs.Math.Seq.{take-append_seam, drop-append_seam}
use Rattle.std.specs.Prelude.{nat_lt}
use Rattle.std.proofs.lemmas.Bool.{lt-ltb, le-ltb, eq-eqb}
use Rattle.std.proofs.lemmas.Bool.Decides.{nat_tests}
use Rattle.am_memberlist.specs.declared.error.AnswerError.{AnswerError}
use Rattle.am_memberlist.specs.Answers.{◌>>=◌}
use Rattle.am_memberlist.specs.Messages.{behind_nodes, message_in, states, states_in}
use Rattle.am_memberlist.specs.Msgpack.{PairAt, ValueAt, as_raw, cut_at, map_at, number, pair_at, pairs_at, raw, scalar_at, word}
use Rattle.am_memberlist.specs.Requests.{number_text, request_encoding}

-- so many bytes as the first part has
cut_front : (front rest : List ℕ) → cut_at (length front) (front ++ rest) ≡ Ok (front, rest)
cut_front front rest =
    let longer : length (front ++ rest) ≡ length front + length rest = length-append front rest in
    let t : ltb (length (front ++ rest)) (length front) ≡ false = le-ltb _ _ (omega (arith, longer)) in
    rw (t, take-append_seam front rest, drop-append_seam front rest) refl

-- ---- numbers
below : (n m : ℕ) → nat_lt n m ≡ true → n < m
below n m test = grind (arith, nat_tests)

two_bytes : (n : ℕ) → n < 65_536 → big_endian 0 (to_be_bytes w16 n) ≡ n
two_bytes n h = omega (arith, h)

four_bytes : (n : ℕ) → n < 4_294_967_296 → big_endian 0 (to_be_bytes w32 n) ≡ n
four_bytes n h = omega (arith, h)

abbrev in_number : List ℕ × List ℕ → Result (ℕ × List ℕ) AnswerError
in_number parts = Ok (big_endian 0 parts.0, parts.1)

abbrev in_value : ℕ × List ℕ → Result (ValueAt × List ℕ) AnswerError
in_value n = Ok (number n.0, n.1)

-- a number that digits spell
sized : (digits rest : List ℕ) (n : ℕ) → big_endian 0 digits ≡ n → ((cut_at (length digits) (digits ++ rest) >>= in_number) >>= in_value) ≡ Ok (number n, rest)
sized digits rest n is =
    ap (λ (x : Result (List ℕ × List ℕ) AnswerError). (x >>= in_number) >>= in_value) (cut_front digits rest)
    ∙ ap (λ (m : ℕ). let found : Result (ValueAt × List ℕ) AnswerError = Ok (number m, rest) in found) is

by_size : (n : ℕ) (rest : List ℕ) (b c d e : Bool) → ltb n 128 ≡ b → ltb n 256 ≡ c → ltb n 65_536 ≡ d → ltb n 4_294_967_296 ≡ e → e ≡ true
    → scalar_at (number_text n ++ rest) ≡ Ok (number n, rest)
unfolding scalar_at
by_size n rest true c d e t u v w is = rw t (rw t refl)
by_size n rest false true d e t u v w is = rw (t, u) (sized (n ∷ []) rest n (omega arith))
by_size n rest false false true e t u v w is = rw (t, u, v) (sized (to_be_bytes w16 n) rest n (two_bytes n (below n 65_536 v)))
by_size n rest false false false true t u v w is = rw (t, u, v, w) (sized (to_be_bytes w32 n) rest n (four_bytes n (below n 4_294_967_296 w)))
by_size n rest false false false false t u v w is = cc

number_again : (n : ℕ) (rest : List ℕ) → n < 4_294_967_296 → scalar_at (number_text n ++ rest) ≡ Ok (number n, rest)
number_again n rest h = by_size n rest _ _ _ _ refl refl refl refl (lt-ltb _ _ h)

-- ---- texts
module _ (rest : List ℕ) where
  join : scalar_at (0xa4 ∷ (codes "Join" ++ rest)) ≡ Ok (raw (codes "Join"), rest)
  unfolding scalar_at
  join = ap (λ (x : Result (List ℕ × List ℕ) AnswerError). x >>= as_raw) (cut_front (codes "Join") rest)

  nodes : scalar_at (0xa5 ∷ (codes "Nodes" ++ rest)) ≡ Ok (raw (codes "Nodes"), rest)
  unfolding scalar_at
  nodes = ap (λ (x : Result (List ℕ × List ℕ) AnswerError). x >>= as_raw) (cut_front (codes "Nodes") rest)

  size : scalar_at (0xac ∷ (codes "UserStateLen" ++ rest)) ≡ Ok (raw (codes "UserStateLen"), rest)
  unfolding scalar_at
  size = ap (λ (x : Result (List ℕ × List ℕ) AnswerError). x >>= as_raw) (cut_front (codes "UserStateLen") rest)

  no : scalar_at (0xc2 ∷ rest) ≡ Ok (word, rest)
  unfolding scalar_at
  no = refl

  none : scalar_at (0 ∷ rest) ≡ Ok (number 0, rest)
  unfolding scalar_at
  none = refl

-- ---- pairs
pair : (text : List ℕ) (value : ValueAt) → PairAt
pair text value = record { key = text; value = value }

pair_again : (bytes text behind rest : List ℕ) (value : ValueAt) → scalar_at bytes ≡ Ok (raw text, behind) → scalar_at behind ≡ Ok (value, rest)
    → pair_at bytes ≡ Ok (pair text value, rest)
unfolding pair_at pair
pair_again bytes text behind rest value h g = rw (h, g) refl

map_again : (b0 b1 b2 b3 : List ℕ) (p0 p1 p2 : PairAt) → pair_at b0 ≡ Ok (p0, b1) → pair_at b1 ≡ Ok (p1, b2) → pair_at b2 ≡ Ok (p2, b3)
    → map_at (0x83 ∷ b0) ≡ Ok (p0 ∷ p1 ∷ p2 ∷ [], b3)
unfolding map_at pairs_at
map_again b0 b1 b2 b3 p0 p1 p2 h0 h1 h2 = rw (h0, h1, h2) refl

states_again : (bytes rest : List ℕ) → map_at bytes ≡ Ok (pair (codes "Join") word ∷ pair (codes "Nodes") (number 0) ∷ pair (codes "UserStateLen") (number (length rest)) ∷ [], rest)
    → states_in bytes ≡ Ok rest
unfolding states_in behind_nodes pair
states_again bytes rest is = rw is (rw (eq-eqb (length rest) (length rest) refl) refl)

message_again : (bytes rest : List ℕ) → states_in bytes ≡ Ok rest → message_in (6 ∷ bytes) ≡ Ok (states rest)
unfolding message_in
message_again bytes rest is = rw is refl

pub request_again : (bytes : List ℕ) → length bytes < 4_294_967_296 → message_in (request_encoding bytes) ≡ Ok (states bytes)
request_again bytes h =
    let behind_size = number_text (length bytes) ++ bytes in
    let behind_nodes = 0xac ∷ (codes "UserStateLen" ++ behind_size) in
    let behind_join = 0xa5 ∷ (codes "Nodes" ++ 0 ∷ behind_nodes) in
    message_again _ bytes (states_again _ bytes (map_again _ behind_join behind_nodes bytes _ _ _
    (pair_again _ (codes "Join") (0xc2 ∷ behind_join) behind_join word (join (0xc2 ∷ behind_join)) (no behind_join))
    (pair_again _ (codes "Nodes") (0 ∷ behind_nodes) behind_nodes (number 0) (nodes (0 ∷ behind_nodes)) (none behind_nodes))
    (pair_again _ (codes "UserStateLen") behind_size bytes (number (length bytes)) (size behind_size) (number_again (length bytes) bytes h))))
