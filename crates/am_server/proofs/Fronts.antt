-- The bytes that go out of a sealed connection before any reply: the beginning of its challenge.
use Rattle.std.proofs.Math.Seq.{take-add}
use Rattle.std.proofs.lemmas.List.{length-take, take-append-le, take_all}
use Rattle.std.proofs.Math.Seq.{take-append-add}
use Rattle.std.proofs.Common.{◌≡◌, ◌≢◌, ◌⊎◌, ◌∙◌, ◌+◌, ◌-◌, ◌≤◌, ℕ, zero, suc, min, List, [], ◌∷◌, ◌++◌, take, drop, length, Option, None, Some, Result, Ok, Err, ap, sym, subst, refl, inl, inr, append-nil, append_assoc, arith}
use Rattle.std.proofs.lemmas.Bool.{cases_lt}
use Rattle.std.proofs.lemmas.Bool.{cases_order}
use Rattle.std.proofs.lemmas.List.{drop_all}
use Rattle.am_api_silences.specs.Replies.{bytes_of as reply_bytes}
use Rattle.am_server.proofs.Sendings.{challenge_rest, drop_none}
use Rattle.am_server.specs.Talks.{Saying, Talk, gone_of, pending_in, pending_of, sent_in, sent_on}
use Rattle.am_server.specs.Talks.Saying.{Silent, Making, Elsewhere, Held as HeldBack, Out}
use Rattle.am_peer_auth.specs.declared.passing.AcceptedProtocols.{AcceptedProtocols}
use Rattle.am_peer_auth.specs.declared.passing.AcceptedProtocols.TheVariants.{Requests, Frames, Both}
use Rattle.am_peer_auth.specs.Authenticators.{Asks as AsksAtGate, Begins as BeginsAtGate, Greets as GreetsSealed, GoesOn as SealedGoesOn, GreetsBy, IsGreeted as IsGreetedSealed, Knocks, Passes, Sends, TakesSealed, AuthOutput, UnsealsFrom, AuthPhase, challenge_left, challenge_sent}
use Rattle.am_peer_auth.specs.Authenticators.AuthPhase.{before, passing, greeting, sealed, shut}
use Rattle.am_gossip.specs.declared.error.FrameError.{FrameError}
use Rattle.am_gossip.specs.Hellos.{hello_of}
use Rattle.am_http.specs.declared.session.fault.SessionFault.{SessionFault}
use Rattle.am_http.specs.Sessions.{SessionPhase, name_of}
use Rattle.am_http.specs.Sessions.SessionPhase.{over}
use Rattle.am_reactor.specs.Sending.{IsFirstPart}
use Rattle.am_peer_auth.specs.declared.seal.Lock.{Lock}
use Rattle.am_peer_auth.specs.declared.seal.SealError.{SealError}
use Rattle.am_peer_auth.specs.declared.sequence.Sequence.{Sequence}
use Rattle.am_peer_auth.specs.Sequences.{after, first_in}
use Rattle.am_server.specs.Talking.{BeginsSealed, IsAskedBack, IsFront}

-- ---- where nothing comes

-- it is the same in a session that is the same or over
front_stays : (auth_phase : AuthPhase) (session session' : SessionPhase) (fed front : List ℕ) → ((session' ≡ session) ⊎ (session' ≡ over (name_of session'))) →
    IsFront auth_phase session fed front → IsFront auth_phase session' fed front
front_stays before session session' fed front on f = (
  f.0,
  λ still. elim on [
    | inl same ↦ f.1 (λ ended. still (subst (λ (s : SessionPhase). s ≡ over (name_of s)) (sym same) ended))
    | inr ends ↦ absurd (still ends)
  ],
)
front_stays passing session session' fed front on f = f
front_stays (greeting bytes) session session' fed front on f = f
front_stays (sealed place out bytes) session session' fed front on f = f
front_stays shut session session' fed front on f = f

pub front_on : (auth_phase auth_phase' : AuthPhase) (session session' : SessionPhase) (fed front : List ℕ) → auth_phase' ≡ auth_phase → ((session' ≡ session) ⊎ (session' ≡ over (name_of session'))) →
    IsFront auth_phase session fed front → IsFront auth_phase' session' fed front
front_on auth_phase auth_phase' session session' fed front same on f = subst (λ (w : AuthPhase). IsFront w session' fed front) (sym same) (front_stays auth_phase session session' fed front on f)

-- at most 32 bytes went out
pub front_bound : (auth_phase : AuthPhase) (session : SessionPhase) (fed front : List ℕ) → IsFront auth_phase session fed front → IsAskedBack fed front
front_bound before session fed front f = inl f.0
front_bound passing session fed front f = inl f
front_bound (greeting bytes) session fed front f = inl f.0
front_bound (sealed place out bytes) session fed front f = inr (omega (arith, ap length f.0, length-take out place.challenge, f.1), f.2)
front_bound shut session fed front f = f

-- ---- where a piece comes

begins_on : (fed piece : List ℕ) → BeginsSealed fed → BeginsSealed (fed ++ piece)
begins_on fed piece begins = (begins.0 ++ piece, ap (λ (l : List ℕ). l ++ piece) begins.1)

asked_on : (fed piece front : List ℕ) → IsAskedBack fed front → IsAskedBack (fed ++ piece) front
asked_on fed piece front (inl none) = inl none
asked_on fed piece front (inr some) = inr (some.0, begins_on fed piece some.1)

-- and no more is heard
pub front_ends : (auth_phase auth_phase' : AuthPhase) (session session' : SessionPhase) (fed piece front : List ℕ) → auth_phase' ≡ auth_phase → session' ≡ over (name_of session') →
    IsFront auth_phase session fed front → IsFront auth_phase' session' (fed ++ piece) front
front_ends before auth_phase' session session' fed piece front same ends f =
    subst (λ (w : AuthPhase). IsFront w session' (fed ++ piece) front) (sym same) (f.0, λ still. absurd (still ends))
front_ends passing auth_phase' session session' fed piece front same ends f = subst (λ (w : AuthPhase). IsFront w session' (fed ++ piece) front) (sym same) f
front_ends (greeting bytes) auth_phase' session session' fed piece front same ends f =
    subst (λ (w : AuthPhase). IsFront w session' (fed ++ piece) front) (sym same) (f.0, begins_on fed piece f.1)
front_ends (sealed place out bytes) auth_phase' session session' fed piece front same ends f =
    subst (λ (w : AuthPhase). IsFront w session' (fed ++ piece) front) (sym same) (f.0, f.1, begins_on fed piece f.2)
front_ends shut auth_phase' session session' fed piece front same ends f =
    subst (λ (w : AuthPhase). IsFront w session' (fed ++ piece) front) (sym same) (asked_on fed piece front f)

-- all that was fed, with the piece, and what went out
module _ (fed front : List ℕ) (told : AuthOutput) (auth_phase' : AuthPhase) (session' : SessionPhase) where
  abbrev Fronts : Type 0
  Fronts = IsFront auth_phase' session' fed front

  fronts : (auth_phase : AuthPhase) → auth_phase' ≡ auth_phase → IsFront auth_phase session' fed front → Fronts
  fronts auth_phase same f = subst (λ (w : AuthPhase). IsFront w session' fed front) (sym same) f

  goes_on_fronts : (error : Option SealError) (next : Sequence) (out : ℕ) (rest : List ℕ) (mid : SessionPhase) → front ≡ take out next.challenge → length next.challenge ≡ 32 →
      BeginsSealed fed → SealedGoesOn error next out rest mid auth_phase' session' → Fronts
  goes_on_fronts None next out rest mid is long begins on = fronts (sealed next out rest) on.0 (is, long, begins)
  goes_on_fronts (Some error) next out rest mid is long begins on =
      fronts shut on.0 (inr (omega (arith, ap length is, length-take out next.challenge, long), begins))

  takes_fronts : (lock : Lock) (sender : List ℕ) (place : Sequence) (out : ℕ) (mid : SessionPhase) (bytes : List ℕ) → front ≡ take out place.challenge →
      length place.challenge ≡ 32 → BeginsSealed fed → TakesSealed lock sender place out mid bytes told auth_phase' session' → Fronts
  takes_fronts lock sender place out mid bytes is long begins takes =
      goes_on_fronts takes.1 (after (length takes.0) place) out takes.2 mid is long begins takes.4.goes_on

  module _ (lock : Lock) (challenge : List ℕ) (session : SessionPhase) (long : length challenge ≡ 32) (none : front ≡ []) (begins : BeginsSealed fed) where
    greeted_fronts : (name text behind : List ℕ) (is : IsGreetedSealed lock name (first_in challenge) session text behind told auth_phase' session') (fault : Option SessionFault) →
        is.said.fault ≡ fault → Fronts
    greeted_fronts name text behind is None e = takes_fronts lock name (first_in challenge) 0 is.mid behind none long begins (is.frames e)
    greeted_fronts name text behind is (Some fault) e = fronts shut (is.lacks fault e).1 (inl none)

    hello_fronts : (bytes : List ℕ) (hello : Result (Option (List ℕ × ℕ)) FrameError) → GreetsBy hello lock challenge session bytes told auth_phase' session' → Fronts
    hello_fronts bytes (Ok None) waits = fronts (greeting bytes) waits.1 (none, begins)
    hello_fronts bytes (Ok (Some hello)) is = greeted_fronts hello.0 (take hello.1 bytes) (drop hello.1 bytes) is is.said.fault refl
    hello_fronts bytes (Err error) failed = fronts shut failed.1 (inl none)

    greets_fronts : (bytes : List ℕ) → GreetsSealed lock challenge session bytes told auth_phase' session' → Fronts
    greets_fronts bytes (inl by) = hello_fronts bytes (hello_of bytes) by
    greets_fronts bytes (inr failed) = fronts shut failed.1 (inl none)

  unseals_fronts : (lock : Lock) (place : Sequence) (out : ℕ) (session : SessionPhase) (bytes : List ℕ) (name : Option (List ℕ)) → front ≡ take out place.challenge →
      length place.challenge ≡ 32 → BeginsSealed fed → UnsealsFrom name lock place out session bytes told auth_phase' session' → Fronts
  unseals_fronts lock place out session bytes None is long begins back =
      fronts shut back.1 (inr (omega (arith, ap length is, length-take out place.challenge, long), begins))
  unseals_fronts lock place out session bytes (Some sender) is long begins takes = takes_fronts lock sender place out session bytes is long begins takes

  -- the first byte of a connection
  module _ (challenge : List ℕ) (session : SessionPhase) (first : ℕ) (behind : List ℕ) (long : length challenge ≡ 32) (none : front ≡ []) (came : fed ≡ first ∷ behind) where
    asks_fronts : (kind : AcceptedProtocols) → AsksAtGate kind session (first ∷ behind) told auth_phase' session' → Fronts
    asks_fronts Frames turned = fronts shut turned.1 (inl none)
    asks_fronts Requests passes = fronts passing passes.2 none
    asks_fronts Both passes = fronts passing passes.2 none

    knocks_fronts : (lock : Lock) → Knocks lock challenge first behind session told auth_phase' session' → Fronts
    knocks_fronts lock knocks = elim (cases_order first 1) [
      | inl is ↦ greets_fronts lock challenge session long none (behind, came ∙ ap (λ (n : ℕ). n ∷ behind) is) behind (knocks.sealed_ is)
      | inr (inl below) ↦ fronts shut (knocks.open_ (λ is. absurd (omega (arith, is, below)))).1 (inl none)
      | inr (inr above) ↦ fronts shut (knocks.open_ (λ is. absurd (omega (arith, is, above)))).1 (inl none)
    ]

    sends_fronts : (kind : AcceptedProtocols) (lock : Option Lock) → Sends kind lock challenge first behind session told auth_phase' session' → Fronts
    sends_fronts Requests lock turned = fronts shut turned.1 (inl none)
    sends_fronts Frames None passes = fronts passing passes.2 none
    sends_fronts Both None passes = fronts passing passes.2 none
    sends_fronts Frames (Some lock) knocks = knocks_fronts lock knocks
    sends_fronts Both (Some lock) knocks = knocks_fronts lock knocks

    begins_fronts : (kind : AcceptedProtocols) (lock : Option Lock) → BeginsAtGate kind lock challenge first behind session told auth_phase' session' → Fronts
    begins_fronts kind lock begins = elim (cases_lt first 32) [
      | inl below ↦ sends_fronts kind lock (begins.peer below)
      | inr from ↦ asks_fronts kind (begins.request from)
    ]

-- what comes of a piece with a byte
pub gate_fronts : (kind : AcceptedProtocols) (lock : Option Lock) (challenge : List ℕ) (auth_phase : AuthPhase) (session : SessionPhase) (piece : List ℕ) (told : AuthOutput) (auth_phase' : AuthPhase) (session' : SessionPhase)
    (fed front : List ℕ) → length challenge ≡ 32 → piece ≢ [] → session ≢ over (name_of session) → Passes kind lock challenge auth_phase session piece told auth_phase' session' →
    IsFront auth_phase session fed front → IsFront auth_phase' session' (fed ++ piece) front
gate_fronts kind lock challenge before session [] told auth_phase' session' fed front long some still passes f = absurd (some refl)
gate_fronts kind lock challenge before session (first ∷ behind) told auth_phase' session' fed front long some still passes f =
    begins_fronts (fed ++ first ∷ behind) front told auth_phase' session' challenge session first behind long f.0 (ap (λ (l : List ℕ). l ++ first ∷ behind) (f.1 still)) kind lock passes
gate_fronts kind None challenge passing session piece told auth_phase' session' fed front long some still passes f = fronts (fed ++ piece) front told auth_phase' session' passing passes.2 f
gate_fronts kind (Some lock) challenge passing session piece told auth_phase' session' fed front long some still passes f = fronts (fed ++ piece) front told auth_phase' session' passing passes.2 f
gate_fronts kind None challenge (greeting bytes) session piece told auth_phase' session' fed front long some still passes f = fronts (fed ++ piece) front told auth_phase' session' shut passes.1 (inl f.0)
gate_fronts kind (Some lock) challenge (greeting bytes) session piece told auth_phase' session' fed front long some still passes f =
    greets_fronts (fed ++ piece) front told auth_phase' session' lock challenge session long f.0 (begins_on fed piece f.1) (bytes ++ piece) passes
gate_fronts kind None challenge (sealed place out bytes) session piece told auth_phase' session' fed front long some still passes f =
    fronts (fed ++ piece) front told auth_phase' session' shut passes.1 (asked_on fed piece front (front_bound (sealed place out bytes) session fed front f))
gate_fronts kind (Some lock) challenge (sealed place out bytes) session piece told auth_phase' session' fed front long some still passes f =
    unseals_fronts (fed ++ piece) front told auth_phase' session' lock place out session (bytes ++ piece) (name_of session) f.0 f.1 (begins_on fed piece f.2) passes
gate_fronts kind None challenge shut session piece told auth_phase' session' fed front long some still passes f = fronts (fed ++ piece) front told auth_phase' session' shut passes.1 (asked_on fed piece front f)
gate_fronts kind (Some lock) challenge shut session piece told auth_phase' session' fed front long some still passes f = fronts (fed ++ piece) front told auth_phase' session' shut passes.1 (asked_on fed piece front f)

-- ---- where bytes go out

-- no byte
abbrev no_bytes : List ℕ
no_bytes = []

take_none : (count : ℕ) → take count no_bytes ≡ no_bytes
take_none zero = refl
take_none (suc count) = refl

-- the first ones of two lists are of the one first, and then of the other
take_both : (count : ℕ) (xs ys : List ℕ) → take count (xs ++ ys) ≡ take (min count (length xs)) xs ++ take (count - length xs) ys
take_both count xs ys = elim (cases_lt (length xs) count) [
  | inl past ↦
      let all : min count (length xs) ≡ length xs = omega (arith, past) in
      let more : count ≡ length xs + (count - length xs) = omega (arith, past) in
      ap (λ (n : ℕ). take n (xs ++ ys)) more
      ∙ take-append-add xs ys (count - length xs)
      ∙ ap (λ (l : List ℕ). l ++ take (count - length xs) ys) (sym (take_all (length xs) xs (omega arith)))
      ∙ ap (λ (n : ℕ). take n xs ++ take (count - length xs) ys) (sym all)
  | inr within ↦
      let all : min count (length xs) ≡ count = omega (arith, within) in
      let none : count - length xs ≡ 0 = omega (arith, within) in
      take-append-le count xs ys within
      ∙ sym (append-nil (take count xs))
      ∙ ap (λ (n : ℕ). take n xs ++ []) (sym all)
      ∙ ap (λ (n : ℕ). take (min count (length xs)) xs ++ take n ys) (sym none)
]

no_more : (front : List ℕ) (count : ℕ) → front ≡ front ++ take count []
no_more front count = sym (append-nil front) ∙ ap (λ (l : List ℕ). front ++ l) (sym (take_none count))

front_sent : (count : ℕ) (auth_phase : AuthPhase) (session : SessionPhase) (fed front : List ℕ) → IsFront auth_phase session fed front →
    IsFront (challenge_sent count auth_phase) session fed (front ++ take count (challenge_left auth_phase))
front_sent count before session fed front f = (sym (no_more front count) ∙ f.0, f.1)
front_sent count passing session fed front f = sym (no_more front count) ∙ f
front_sent count (greeting bytes) session fed front f = (sym (no_more front count) ∙ f.0, f.1)
front_sent count (sealed place out bytes) session fed front f =
    (ap (λ (l : List ℕ). l ++ take count (drop out place.challenge)) f.0 ∙ sym (take-add out count place.challenge), f.1, f.2)
front_sent count shut session fed front f = subst (λ (l : List ℕ). IsFront shut session fed l) (no_more front count) f

reply_gone : (count : ℕ) (saying : Saying) → gone_of (sent_on count saying) ≡ gone_of saying ++ take count (pending_of saying)
reply_gone count Silent = sym (take_none count)
reply_gone count (Making making) = sym (take_none count)
reply_gone count (Elsewhere call) = sym (take_none count)
reply_gone count (HeldBack reply) = sym (take_none count)
reply_gone count (Out reply written) = take-add written count (reply_bytes reply)

-- of two lists that go out one is nothing
in_order : (front one other more : List ℕ) → ((other ≡ []) ⊎ (one ≡ [])) → (front ++ one) ++ (other ++ more) ≡ (front ++ other) ++ (one ++ more)
in_order front one other more order =
    let swap : one ++ other ≡ other ++ one = elim order [
      | inl none ↦ ap (λ (l : List ℕ). one ++ l) none ∙ append-nil one ∙ ap (λ (l : List ℕ). l ++ one) (sym none)
      | inr none ↦ ap (λ (l : List ℕ). l ++ other) none ∙ sym (append-nil other) ∙ ap (λ (l : List ℕ). other ++ l) (sym none)
    ] in
    append_assoc front one (other ++ more)
    ∙ ap (λ (l : List ℕ). front ++ l) (sym (append_assoc one other more) ∙ ap (λ (l : List ℕ). l ++ more) swap ∙ append_assoc other one more)
    ∙ sym (append_assoc front other (one ++ more))

module _ (bytes : List ℕ) (talk : Talk) (fed front gone : List ℕ) (was : gone ≡ front ++ gone_of talk.saying) (f : IsFront talk.auth_phase talk.session fed front)
    (order : (challenge_left talk.auth_phase ≡ []) ⊎ (gone_of talk.saying ≡ [])) (first : IsFirstPart bytes (pending_in talk)) where
  abbrev left : List ℕ
  left = challenge_left talk.auth_phase

  abbrev of_challenge : ℕ
  of_challenge = min (length bytes) (length left)

  abbrev of_reply : ℕ
  of_reply = length bytes - length left

  -- the beginning of the challenge that went out
  abbrev pub front_then : List ℕ
  front_then = front ++ take of_challenge left

  no_challenge : (left ≡ []) ⊎ (gone_of talk.saying ≡ []) → (take of_challenge left ≡ []) ⊎ (gone_of talk.saying ≡ [])
  no_challenge (inl none) = inl (ap (take of_challenge) none ∙ take_none of_challenge)
  no_challenge (inr none) = inr none

  pub gone_then : gone ++ bytes ≡ front_then ++ gone_of (sent_in (length bytes) talk).saying
  gone_then =
      ap (λ (l : List ℕ). l ++ bytes) was
      ∙ ap (λ (l : List ℕ). (front ++ gone_of talk.saying) ++ l) (first ∙ take_both (length bytes) left (pending_of talk.saying))
      ∙ in_order front (gone_of talk.saying) (take of_challenge left) (take of_reply (pending_of talk.saying)) (no_challenge order)
      ∙ ap (λ (l : List ℕ). front_then ++ l) (sym (reply_gone of_reply talk.saying))

  pub asked_then : IsFront (sent_in (length bytes) talk).auth_phase talk.session fed front_then
  asked_then = front_sent of_challenge talk.auth_phase talk.session fed front f

  left_then : challenge_left (sent_in (length bytes) talk).auth_phase ≡ drop of_challenge left
  left_then = challenge_rest of_challenge talk.auth_phase

  order_by : (left ≡ []) ⊎ (gone_of talk.saying ≡ []) → (challenge_left (sent_in (length bytes) talk).auth_phase ≡ []) ⊎ (gone_of (sent_in (length bytes) talk).saying ≡ [])
  order_by (inl none) = inl (left_then ∙ ap (drop of_challenge) none ∙ sym (drop_none of_challenge))
  order_by (inr none) = elim (cases_lt (length bytes) (length left)) [
    | inl within ↦
        let nothing : of_reply ≡ 0 = omega (arith, within) in
        inr (reply_gone of_reply talk.saying ∙ ap (λ (n : ℕ). gone_of talk.saying ++ take n (pending_of talk.saying)) nothing ∙ append-nil (gone_of talk.saying) ∙ none)
    | inr past ↦
        let all : length left ≤ of_challenge = omega (arith, past) in
        inl (left_then ∙ drop_all of_challenge left all)
  ]

  pub order_then : (challenge_left (sent_in (length bytes) talk).auth_phase ≡ []) ⊎ (gone_of (sent_in (length bytes) talk).saying ≡ [])
  order_then = order_by order
