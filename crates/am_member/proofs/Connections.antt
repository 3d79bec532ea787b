-- The words of one of several connections.
use Rattle.std.proofs.Common.{◌≡◌, ℕ, ◌++◌, Bool, true, false, cond, List, [], ◌∷◌, map, Option, None, Some, refl, sym, subst, ap}
use Rattle.std.proofs.lemmas.Bool.{eqb-true}
use Rattle.std.specs.Prelude.{◌==◌, if◌then◌else◌}
use Rattle.std.specs.List.{AllByRecursion, flat_map}
use Rattle.am_instance.specs.InstanceStates.{InstanceState}
use Rattle.am_http.specs.Sessions.{Says, SaysAll, Spoken, SessionPhase, fresh}
use Rattle.am_peers.specs.declared.fault.ConnectionFault.{ConnectionFault}
use Rattle.am_peers.specs.declared.fault.ConnectionFault.TheVariants.{Read, Write, TooLarge, Frame as InFrame, UnknownName, Step}
use Rattle.am_member.specs.Exchanging.{is_stopped, left_at}
use Rattle.am_member.specs.Lives.{Came, Deed, IsHeardOut, IsLife, IsTurn, Tells, Turn, bytes_in, bytes_of, said_in, session_phases_after, session_phases_in, turns_of}
use Rattle.am_member.specs.Lives.Came.{Heard, Fed, AtEnd, Opened}
use Rattle.am_member.specs.Lives.Deed.{Served, Own}

-- the bytes of each turn
abbrev pub pieces_of : List Turn → List (List ℕ)
pieces_of turns = map (λ turn. bytes_of turn.came) turns

joined : (turns : List Turn) → flat_map (λ piece. piece) (pieces_of turns) ≡ bytes_in turns
joined [] = refl
joined (turn ∷ turns) = ap (λ (bytes : List ℕ). bytes_of turn.came ++ bytes) (joined turns)

-- there was memory for what came
told_heard : (came : Came) (piece : List ℕ) (old : SessionPhase) (said : Spoken) (new : SessionPhase) → came ≡ Heard piece → Tells old came said new →
    Says old (bytes_of came) said new
told_heard (Heard bytes) piece old said new is tells = tells
told_heard (Fed bytes) piece old said new is tells = absurd cc
told_heard AtEnd piece old said new is tells = absurd cc
told_heard (Opened greeting frames) piece old said new is tells = absurd cc

-- the connection is heard on
heard_on : (fault : Option ConnectionFault) (session_phase : SessionPhase) → is_stopped fault ≡ false → left_at fault session_phase ≡ session_phase
heard_on None session_phase on = refl
heard_on (Some (Read at)) session_phase on = refl
heard_on (Some (Write written)) session_phase on = refl
heard_on (Some TooLarge) session_phase on = refl
heard_on (Some (InFrame error)) session_phase on = refl
heard_on (Some UnknownName) session_phase on = absurd cc
heard_on (Some (Step error)) session_phase on = absurd cc

-- one turn more before others, of this connection or of another
one_before : (mine : Bool) (session_phase own final : SessionPhase) (old : InstanceState) (turn : Turn) (rest : List Turn) → (mine ≡ true → session_phase ≡ own) → IsTurn own old turn →
    (AllByRecursion IsHeardOut rest → SaysAll (if mine then left_at turn.answer.fault turn.heard else session_phase) (pieces_of rest) (said_in rest) final) →
    AllByRecursion IsHeardOut (cond mine (turn ∷ rest) rest) →
    SaysAll session_phase (pieces_of (cond mine (turn ∷ rest) rest)) (said_in (cond mine (turn ∷ rest) rest)) final
one_before true session_phase own final old turn rest same done on all = (
  turn.said,
  turn.heard,
  said_in rest,
  subst (λ (s : SessionPhase). Says s (bytes_of turn.came) turn.said turn.heard) (sym (same refl)) (told_heard turn.came all.0.piece own turn.said turn.heard all.0.came done.tells),
  subst (λ (s : SessionPhase). SaysAll s (pieces_of rest) (said_in rest) final) (heard_on turn.answer.fault turn.heard all.0.goes_on) (on all.1),
  refl,
)
one_before false session_phase own final old turn rest same done on all = on all

-- what a connection said in all its turns
heard_all : (session_phases : ℕ → SessionPhase) (start new : InstanceState) (deeds : List Deed) (connection : ℕ) → IsLife session_phases start deeds new →
    AllByRecursion IsHeardOut (turns_of connection deeds) →
    SaysAll (session_phases connection) (pieces_of (turns_of connection deeds)) (said_in (turns_of connection deeds)) (session_phases_in session_phases deeds connection)
heard_all session_phases start new [] connection life all = (refl, refl)
heard_all session_phases start new (Served turn ∷ deeds) connection life all =
    one_before (connection == turn.connection) (session_phases connection) (session_phases turn.connection) (session_phases_in session_phases (Served turn ∷ deeds) connection)
    start turn (turns_of connection deeds) (λ is. ap session_phases (eqb-true connection turn.connection is)) life.0
    (λ others. heard_all (session_phases_after session_phases turn) turn.left new deeds connection life.1 others) all
heard_all session_phases start new (Own step ∷ deeds) connection life all = heard_all session_phases step.left new deeds connection life.1 all

-- from the first byte on
pub heard_from_fresh : (session_phases : ℕ → SessionPhase) (start new : InstanceState) (deeds : List Deed) (connection : ℕ) → IsLife session_phases start deeds new →
    session_phases connection ≡ fresh → AllByRecursion IsHeardOut (turns_of connection deeds) →
    SaysAll fresh (pieces_of (turns_of connection deeds)) (said_in (turns_of connection deeds)) (session_phases_in session_phases deeds connection)
heard_from_fresh session_phases start new deeds connection life first all =
    subst (λ (s : SessionPhase). SaysAll s (pieces_of (turns_of connection deeds)) (said_in (turns_of connection deeds)) (session_phases_in session_phases deeds connection)) first
    (heard_all session_phases start new deeds connection life all)

pub as_bytes : (turns : List Turn) (said : Spoken) (new : SessionPhase) → Says fresh (flat_map (λ piece. piece) (pieces_of turns)) said new → Says fresh (bytes_in turns) said new
as_bytes turns said new says = subst (λ (bytes : List ℕ). Says fresh bytes said new) (joined turns) says
