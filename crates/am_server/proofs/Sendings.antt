-- The bytes that go out of a connection: the rest of its challenge, and a reply behind it.
use Rattle.std.proofs.Common.{◌≡◌, ◌∙◌, ◌+◌, ◌-◌, ◌++◌, ℕ, zero, suc, min, List, [], length, drop, refl, sym, ap, inl, inr, arith}
use Rattle.std.proofs.Math.Seq.{drop-append-add}
use Rattle.std.proofs.lemmas.Bool.{cases_lt}
use Rattle.std.proofs.lemmas.List.{drop-append-le, drop-drop, drop_all}
use Rattle.am_api_silences.specs.Replies.{bytes_of}
use Rattle.am_peer_auth.specs.Authenticators.{AuthPhase, challenge_left, challenge_sent}
use Rattle.am_peer_auth.specs.Authenticators.AuthPhase.{before, passing, greeting, sealed, shut}
use Rattle.am_server.specs.Talks.{Saying, Talk, pending_in, pending_of, sent_in, sent_on}
use Rattle.am_server.specs.Talks.Saying.{Silent, Making, Elsewhere, Held, Out}

-- no byte
abbrev none : List ℕ
none = []

pub drop_none : (count : ℕ) → none ≡ drop count none
drop_none zero = refl
drop_none (suc count) = refl

-- the first ones of two lists are of the one first, and then of the other
drop_both : (count : ℕ) (xs ys : List ℕ) → drop (min count (length xs)) xs ++ drop (count - length xs) ys ≡ drop count (xs ++ ys)
drop_both count xs ys = elim (cases_lt (length xs) count) [
  | inl over ↦
      let all : min count (length xs) ≡ length xs = omega (arith, over) in
      let more : length xs + (count - length xs) ≡ count = omega (arith, over) in
      ap (λ (n : ℕ). drop n xs ++ drop (count - length xs) ys) all
      ∙ ap (λ (l : List ℕ). l ++ drop (count - length xs) ys) (drop_all (length xs) xs (omega arith))
      ∙ sym (drop-append-add xs ys (count - length xs))
      ∙ ap (λ (n : ℕ). drop n (xs ++ ys)) more
  | inr within ↦
      let all : min count (length xs) ≡ count = omega (arith, within) in
      let nothing : count - length xs ≡ 0 = omega (arith, within) in
      ap (λ (n : ℕ). drop n xs ++ drop (count - length xs) ys) all ∙ ap (λ (n : ℕ). drop count xs ++ drop n ys) nothing ∙ sym (drop-append-le count xs ys within)
]

pub challenge_rest : (count : ℕ) (auth_phase : AuthPhase) → challenge_left (challenge_sent count auth_phase) ≡ drop count (challenge_left auth_phase)
challenge_rest count before = drop_none count
challenge_rest count passing = drop_none count
challenge_rest count (greeting bytes) = drop_none count
challenge_rest count (sealed place out bytes) = sym (drop-drop count out place.challenge)
challenge_rest count shut = drop_none count

reply_rest : (count : ℕ) (saying : Saying) → pending_of (sent_on count saying) ≡ drop count (pending_of saying)
reply_rest count Silent = drop_none count
reply_rest count (Making making) = drop_none count
reply_rest count (Elsewhere call) = drop_none count
reply_rest count (Held reply) = drop_none count
reply_rest count (Out reply written) = sym (drop-drop count written (bytes_of reply))

-- what went out waits no more
pub pending_rest : (count : ℕ) (talk : Talk) → pending_in (sent_in count talk) ≡ drop count (pending_in talk)
pending_rest count talk =
    let left : List ℕ = challenge_left talk.auth_phase in
    let first : ℕ = min count (length left) in
    let then : ℕ = count - length left in
    ap (λ (l : List ℕ). l ++ pending_of (sent_on then talk.saying)) (challenge_rest first talk.auth_phase)
    ∙ ap (λ (l : List ℕ). drop first left ++ l) (reply_rest then talk.saying)
    ∙ drop_both count left (pending_of talk.saying)
