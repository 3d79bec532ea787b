-- Pairs of a map, and nodes, one by one.
use Rattle.std.proofs.Common.{◌≡◌, ℕ, suc, ◌+◌, ◌-◌, ◌<◌, ◌≤◌, List, [], ◌∷◌, ◌++◌, Result, Ok, Err, refl, sym, ap, arith, append_assoc}
use Rattle.std.proofs.lemmas.List.{append-nil}
use Rattle.am_memberlist.specs.Answers.{◌>>=◌}
use Rattle.am_memberlist.specs.Msgpack.{PairAt, count_at, pair_at, pairs_at, map_at, with_pair}
use Rattle.am_memberlist.specs.Messages.{behind_nodes}
use Rattle.am_memberlist.specs.declared.error.AnswerError.{AnswerError}

-- pairs before those of a map that are left
abbrev pub with_pairs : List PairAt → Result (List PairAt × List ℕ) AnswerError → Result (List PairAt × List ℕ) AnswerError
with_pairs pairs (Ok others) = Ok (pairs ++ others.0, others.1)
with_pairs pairs (Err e) = Err e

-- one more before them
next_pair : (pairs : List PairAt) (pair : PairAt) (others : Result (List PairAt × List ℕ) AnswerError)
    → with_pairs pairs (others >>= with_pair pair) ≡ with_pairs (pairs ++ pair ∷ []) others
next_pair pairs pair (Ok others) = rw (append_assoc pairs (pair ∷ []) others.0) refl
next_pair pairs pair (Err e) = refl

-- the next pair
pub pair_more : (pairs : List PairAt) (pair : PairAt) (count done : ℕ) (rest behind : List ℕ) → done < count → pair_at rest ≡ Ok (pair, behind)
    → with_pairs pairs (pairs_at (count - done) rest) ≡ with_pairs (pairs ++ pair ∷ []) (pairs_at (count - (done + 1)) behind)
unfolding pairs_at
pair_more pairs pair count done rest behind lt is =
    let k : count - done ≡ suc (count - (done + 1)) = omega arith in
    rw (k, is) (next_pair pairs pair (pairs_at (count - (done + 1)) behind))

-- a fault in it
pub pair_fault : (pairs : List PairAt) (e : AnswerError) (count done : ℕ) (rest : List ℕ) → done < count → pair_at rest ≡ Err e
    → with_pairs pairs (pairs_at (count - done) rest) ≡ Err e
unfolding pairs_at
pair_fault pairs e count done rest lt is =
    let k : count - done ≡ suc (count - (done + 1)) = omega arith in
    rw (k, is) refl

-- none is left
pub pairs_over : (pairs : List PairAt) (count done : ℕ) (rest : List ℕ) → count ≤ done → with_pairs pairs (pairs_at (count - done) rest) ≡ Ok (pairs, rest)
unfolding pairs_at
pairs_over pairs count done rest le =
    let k : count - done ≡ 0 = omega arith in
    rw (k, append-nil pairs) refl

-- ---- behind its first byte
pub count_fault : (bytes : List ℕ) (e : AnswerError) → Err e ≡ count_at bytes → map_at bytes ≡ Err e
unfolding map_at
count_fault bytes e is = ap (λ (x : Result (ℕ × List ℕ) AnswerError). x >>= λ count. pairs_at count.0 count.1) (sym is)

pub counted : (bytes rest : List ℕ) (count : ℕ) → Ok (count, rest) ≡ count_at bytes → map_at bytes ≡ pairs_at count rest
unfolding map_at
counted bytes rest count is = ap (λ (x : Result (ℕ × List ℕ) AnswerError). x >>= λ count. pairs_at count.0 count.1) (sym is)

-- ---- the next node
pub node_more : (count done : ℕ) (rest behind : List ℕ) (pairs : List PairAt) → done < count → map_at rest ≡ Ok (pairs, behind)
    → behind_nodes (count - done) rest ≡ behind_nodes (count - (done + 1)) behind
unfolding behind_nodes
node_more count done rest behind pairs lt is =
    let k : count - done ≡ suc (count - (done + 1)) = omega arith in
    rw (k, is) refl

-- a fault in it
pub node_fault : (e : AnswerError) (count done : ℕ) (rest : List ℕ) → done < count → map_at rest ≡ Err e → behind_nodes (count - done) rest ≡ Err e
unfolding behind_nodes
node_fault e count done rest lt is =
    let k : count - done ≡ suc (count - (done + 1)) = omega arith in
    rw (k, is) refl

-- none is left
pub nodes_over : (count done : ℕ) (rest : List ℕ) → count ≤ done → behind_nodes (count - done) rest ≡ Ok rest
unfolding behind_nodes
nodes_over count done rest le =
    let k : count - done ≡ 0 = omega arith in
    rw k refl
