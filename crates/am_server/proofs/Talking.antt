-- The calls of a member's connections, as its life.
use Rattle.std.proofs.lemmas.List.{length-take, take_min}
use Rattle.std.proofs.Common.{◌≡◌, ◌≢◌, ◌⊎◌, ◌∙◌, ◌-◌, ℕ, min, List, [], ◌∷◌, ◌++◌, take, drop, length, Option, None, Some, Result, Ok, Err, ap, sym, subst, refl, inl, inr, append-nil, append_assoc, arith}
use Rattle.std.proofs.lemmas.Bool.{cases_lt}
use Rattle.std.proofs.lemmas.Bool.{cases_order}
use Rattle.std.proofs.lemmas.Option.{none-some}
use Rattle.am_server.proofs.Calls.{owes_owed}
use Rattle.am_server.proofs.Sayings.{keeps_same}
use Rattle.am_server.proofs.Steps.{nothing_made}
use Rattle.am_server.specs.Answered.{AreStepsOf, ByItself, ForPages, IsAnswered, IsKept, IsLeft, IsTaken}
use Rattle.am_server.specs.Answered.{SaysBy}
use Rattle.am_server.specs.Talks.{AsksElsewhere, Idles, IsClosed, IsElsewhere, IsOwed, IsRequest, Keeps, Lasts, Owed, Saying, Talk, WaitsNoMore, gone_of, sent_in, sent_on}
use Rattle.am_server.specs.Talks.Owed.{Line, Reply}
use Rattle.am_server.specs.Talks.Saying.{Silent, Making, Elsewhere, Held as HeldBack, Out}
use Rattle.am_peer_auth.specs.declared.fault.AuthFault.{AuthFault}
use Rattle.am_peer_auth.specs.declared.passing.AcceptedProtocols.{AcceptedProtocols}
use Rattle.am_peer_auth.specs.declared.passing.AcceptedProtocols.TheVariants.{Requests, Frames, Both}
use Rattle.am_peer_auth.specs.Authenticators.{Asks as AsksAtGate, Begins as BeginsAtGate, Greets as GreetsSealed, GoesOn as SealedGoesOn, GreetsBy, IsFailed, IsGreeted as IsGreetedSealed, IsTurnedBack, Knocks, Passes, PassesOn, Sends, TakesSealed, AuthOutput, UnsealsFrom, Waits, AuthPhase, challenge_left, challenge_sent}
use Rattle.am_peer_auth.specs.Authenticators.AuthPhase.{before, passing, greeting, sealed, shut}
use Rattle.am_gossip.specs.declared.error.FrameError.{FrameError}
use Rattle.am_gossip.specs.declared.frame.Frame.{Frame}
use Rattle.am_gossip.specs.Hellos.{hello_of}
use Rattle.am_http.specs.declared.request.Read.{Read}
use Rattle.am_http.specs.declared.refusal.Refusal.{Refusal}
use Rattle.am_http.specs.declared.request.Read.TheVariants.{More, Whole, Refused}
use Rattle.am_http.specs.declared.session.fault.SessionFault.{SessionFault}
use Rattle.am_http.specs.Sessions.{Feeds, Greets, Hears as HearsPiece, IsAsked, IsGreeted, IsHeard as IsHeardStream, LacksMemory, Says, SaysEnd, Spoken, SessionPhase, heard, name_of, nothing}
use Rattle.am_http.specs.Sessions.SessionPhase.{fresh, InRequest, InGreeting, InFrames, over}
use Rattle.am_instance.specs.declared.event.Event.{Event}
use Rattle.am_instance.specs.InstanceStates.{InstanceState}
use Rattle.am_instance.specs.Laws.{Happened}
use Rattle.am_api_silences.specs.Replies.{bytes_of as reply_bytes}
use Rattle.am_api_silences.specs.declared.reply_builder.ReplyBuilder.{ReplyBuilder}
use Rattle.am_api_silences.specs.declared.replies.ResponseBytes.{ResponseBytes}
use Rattle.am_member.specs.declared.session_answer.SessionAnswer.{SessionAnswer}
use Rattle.am_member.specs.Exchanging.{AreStepped, IsSessionAnswer, left_at}
use Rattle.am_member.specs.Incoming.{SoFar, no_effects, so_far}
use Rattle.am_member.specs.Lives.{Came, Deed as LifeDeed, IsGreetedBy, IsLife, IsOwnEvent, IsPagingEvent, Tells, Turn, bytes_in, bytes_of, session_phases_in, turns_of}
use Rattle.am_member.specs.Lives.Came.{Heard, Fed as FedAnyhow, AtEnd, Opened}
use Rattle.am_member.specs.Lives.Deed.{Served, Own}
use Rattle.am_member.specs.Sparing.{deferred}
use Rattle.am_peers.specs.declared.fault.ConnectionFault.{ConnectionFault}
use Rattle.am_peers.specs.declared.fault.ConnectionFault.TheVariants.{Read as InRead, Write, TooLarge, Frame as InFrame, UnknownName, Step}
use Rattle.am_reactor.specs.Deeds.{Deed}
use Rattle.am_reactor.specs.Deeds.Deed.{Fed, Ended, Sent, Resumed, Released, ReachedDeadline, AbandonedWait, BrokenOff}
use Rattle.am_reactor.specs.declared.fault.LinkFault.{LinkFault}
use Rattle.am_reactor.specs.declared.service.Service.{Ghosts as Service}
use Rattle.am_reactor.specs.History.{IsCall}
use Rattle.am_reactor.specs.Sending.{IsFirstPart}
use Rattle.am_peer_auth.specs.declared.seal.Lock.{Lock}
use Rattle.am_peer_auth.specs.declared.seal.SealError.{SealError}
use Rattle.am_peer_auth.specs.declared.sequence.Sequence.{Sequence}
use Rattle.am_peer_auth.specs.Sequences.{after, first_in}
use Rattle.am_server.specs.MemberService.{AreOf, AreOwn, LivesOn, Passed, nothing_passed, passed_on}
use Rattle.am_server.specs.Talking.{AreFed, HasAskedElsewhere, Does, HasAsked, IsCalledOn, IsDone, IsEnded, IsFed, IsForPages, IsFront, IsHeard, IsInAccord, IsLetIn, IsMeantFor, IsReplied, IsSent, IsStill, IsTakenUp, fresh_talk, owed_after, owed_by, owed_on}
use Rattle.am_server.proofs.Fronts.{asked_then, front_bound, front_ends, front_on, front_then, gate_fronts, gone_then, order_then}
use Rattle.am_server.proofs.Lived.{chosen_is}

-- ---- a request ends what is heard

-- nothing more is heard, by whatever name
over_name : (new : SessionPhase) (name : Option (List ℕ)) → new ≡ over name → new ≡ over (name_of new)
over_name new name e = e ∙ sym (ap (λ (s : SessionPhase). over (name_of s)) e)

-- no request is among frames
no_request : (A : Type 0) (said : Spoken) → said.request ≡ None → IsRequest said → A
no_request A said none some = absurd (none-some some.0 (sym none ∙ some.1))

request_of : (one other : Spoken) → one ≡ other → one.request ≡ other.request
request_of one other e = ap (λ (s : Spoken). s.request) e

asked_over : (read : Read) (bytes : List ℕ) (said : Spoken) (new : SessionPhase) → IsAsked bytes read said new → IsRequest said → new ≡ over (name_of new)
asked_over More bytes said new is request = no_request _ said (request_of said nothing is.0) request
asked_over (Whole whole) bytes said new is request = over_name new None is.1
asked_over (Refused refusal) bytes said new is request = over_name new None is.1

heard_frames : (name : List ℕ) (count : ℕ) (frames : List Frame) (ending : Result (List ℕ) FrameError) (lost : List ℕ) (said : Spoken) (new : SessionPhase) →
    IsHeardStream name count frames ending lost said new → said.request ≡ None
heard_frames name count frames (Ok rest) [] said new is = request_of said _ is.0
heard_frames name count frames (Ok rest) (byte ∷ lost) said new is = request_of said _ is.0
heard_frames name count frames (Err error) lost said new is = request_of said _ is.0

hears_frames : (name : List ℕ) (count : ℕ) (rest piece : List ℕ) (said : Spoken) (new : SessionPhase) → HearsPiece name count rest piece said new → said.request ≡ None
hears_frames name count rest piece said new is = heard_frames name _ _ _ _ said new is

greeted_frames : (bytes : List ℕ) (hello : Result (Option (List ℕ × ℕ)) FrameError) (said : Spoken) (new : SessionPhase) → IsGreeted bytes hello said new → said.request ≡ None
greeted_frames bytes (Ok None) said new is = request_of said _ is.0
greeted_frames bytes (Ok (Some hello)) said new is = hears_frames hello.0 hello.1 [] (drop hello.1 bytes) said new is
greeted_frames bytes (Err error) said new is = request_of said _ is.0

greets_frames : (bytes : List ℕ) (said : Spoken) (new : SessionPhase) → Greets bytes said new → said.request ≡ None
greets_frames bytes said new is = greeted_frames bytes (hello_of bytes) said new is

says_over : (old : SessionPhase) (piece : List ℕ) (said : Spoken) (new : SessionPhase) → Says old piece said new → IsRequest said → new ≡ over (name_of new)
says_over fresh [] said new says request = no_request _ said (request_of said nothing says.0) request
says_over fresh (first ∷ bytes) said new says request = elim (cases_lt first 32) [
  | inl below ↦ no_request _ said (greets_frames (first ∷ bytes) said new (says.peer below)) request
  | inr from ↦ let is = says.request from in asked_over is.0 (first ∷ bytes) said new is.2 request
]
says_over (InRequest bytes) piece said new says request = asked_over says.0 (bytes ++ piece) said new says.2 request
says_over (InGreeting bytes) piece said new says request = no_request _ said (greets_frames (bytes ++ piece) said new says) request
says_over (InFrames name count rest) piece said new says request = no_request _ said (hears_frames name count rest piece said new says) request
says_over (over name) piece said new says request = no_request _ said (request_of said nothing says.0) request

lacks_over : (old : SessionPhase) (piece : List ℕ) (said : Spoken) (new : SessionPhase) → LacksMemory old piece said new → new ≡ over (name_of new)
lacks_over fresh [] said new lacks = absurd lacks
lacks_over fresh (first ∷ bytes) said new lacks = elim (cases_lt first 32) [
  | inl below ↦ let greet = lacks.peer below in over_name new greet.1.0 greet.1.1
  | inr from ↦ over_name new None (lacks.request from).1
]
lacks_over (InRequest bytes) piece said new lacks = over_name new None lacks.1
lacks_over (InGreeting bytes) piece said new lacks = over_name new lacks.1.0 lacks.1.1
lacks_over (InFrames name count rest) piece said new lacks = over_name new (Some name) lacks.1
lacks_over (over name) piece said new lacks = absurd lacks

told_over : (old : SessionPhase) (came : Came) (said : Spoken) (new : SessionPhase) → Tells old came said new → IsRequest said → new ≡ over (name_of new)
told_over old (Heard piece) said new tells request = says_over old piece said new tells request
told_over old (FedAnyhow piece) said new (inl says) request = says_over old piece said new says request
told_over old (FedAnyhow piece) said new (inr lacks) request = lacks_over old piece said new lacks
told_over old AtEnd said new tells request = over_name new (name_of old) tells.1
told_over old (Opened greeting_ frames) said new tells request = no_request _ said (request_of said _ tells.says) request

-- where a request was said, nothing is at fault with the connection
fault_of : (one other : Spoken) → one ≡ other → one.fault ≡ other.fault
fault_of one other e = ap (λ (s : Spoken). s.fault) e

asked_sound : (read : Read) (bytes : List ℕ) (said : Spoken) (new : SessionPhase) → IsAsked bytes read said new → said.fault ≡ None
asked_sound More bytes said new is = fault_of said nothing is.0
asked_sound (Whole whole) bytes said new is = fault_of said _ is.0
asked_sound (Refused refusal) bytes said new is = fault_of said _ is.0

says_sound : (old : SessionPhase) (piece : List ℕ) (said : Spoken) (new : SessionPhase) → Says old piece said new → IsRequest said → said.fault ≡ None
says_sound fresh [] said new says request = no_request _ said (request_of said nothing says.0) request
says_sound fresh (first ∷ bytes) said new says request = elim (cases_lt first 32) [
  | inl below ↦ no_request _ said (greets_frames (first ∷ bytes) said new (says.peer below)) request
  | inr from ↦ let is = says.request from in asked_sound is.0 (first ∷ bytes) said new is.2
]
says_sound (InRequest bytes) piece said new says request = asked_sound says.0 (bytes ++ piece) said new says.2
says_sound (InGreeting bytes) piece said new says request = no_request _ said (greets_frames (bytes ++ piece) said new says) request
says_sound (InFrames name count rest) piece said new says request = no_request _ said (hears_frames name count rest piece said new says) request
says_sound (over name) piece said new says request = no_request _ said (request_of said nothing says.0) request

lacks_sound : (old : SessionPhase) (piece : List ℕ) (said : Spoken) (new : SessionPhase) → LacksMemory old piece said new → IsRequest said → said.fault ≡ None
lacks_sound fresh [] said new lacks request = absurd lacks
lacks_sound fresh (first ∷ bytes) said new lacks request = elim (cases_lt first 32) [
  | inl below ↦ no_request _ said (request_of said _ (lacks.peer below).0) request
  | inr from ↦ fault_of said _ (lacks.request from).0.1
]
lacks_sound (InRequest bytes) piece said new lacks request = fault_of said _ lacks.0.1
lacks_sound (InGreeting bytes) piece said new lacks request = no_request _ said (request_of said _ lacks.0) request
lacks_sound (InFrames name count rest) piece said new lacks request = no_request _ said (request_of said _ lacks.0) request
lacks_sound (over name) piece said new lacks request = absurd lacks

feeds_sound : (old : SessionPhase) (piece : List ℕ) (said : Spoken) (new : SessionPhase) → Feeds old piece said new → IsRequest said → said.fault ≡ None
feeds_sound old piece said new (inl says) request = says_sound old piece said new says request
feeds_sound old piece said new (inr lacks) request = lacks_sound old piece said new lacks request

-- what is said elsewhere is a request
elsewhere_asked : (said : Spoken) → IsElsewhere said → IsRequest said
elsewhere_asked said elsewhere = (elsewhere.0, elsewhere.1)

-- no whole request is said by the end of the input
one_read : (one other : Read) → Some one ≡ Some other → one ≡ other
one_read one other e = cc

not_cut : (A : Type 0) (said : Spoken) (refusal : Refusal) → said.request ≡ Some (Refused refusal) → IsElsewhere said → A
not_cut A said refusal is elsewhere = absurd (subst AsksElsewhere (one_read elsewhere.0 (Refused refusal) (sym elsewhere.1 ∙ is)) elsewhere.2)

end_elsewhere : (A : Type 0) (old : SessionPhase) (said : Spoken) → SaysEnd old said → IsElsewhere said → A
end_elsewhere A fresh said says elsewhere = no_request A said (request_of said nothing says) (elsewhere_asked said elsewhere)
end_elsewhere A (InRequest bytes) said says elsewhere = not_cut A said says.refusal (request_of said _ says.is) elsewhere
end_elsewhere A (InGreeting bytes) said says elsewhere = no_request A said (request_of said nothing says) (elsewhere_asked said elsewhere)
end_elsewhere A (InFrames name count rest) said says elsewhere = no_request A said (request_of said nothing says) (elsewhere_asked said elsewhere)
end_elsewhere A (over name) said says elsewhere = no_request A said (request_of said nothing says) (elsewhere_asked said elsewhere)

-- ---- what says nothing makes no step

nil_parts : (frame : Frame) (made others : List Frame) → [] ≡ made ++ frame ∷ others → ⊥
nil_parts frame [] others e = cc
nil_parts frame (first ∷ made) others e = cc

stepped_nothing : (name : Option (List ℕ)) (now : ℕ) (start end : SoFar) (steps : Result Unit ConnectionFault) → AreStepped name now [] start end steps → end ≡ start
stepped_nothing name now start end (Ok _) stepped = stepped.2
stepped_nothing name now start end (Err UnknownName) stepped = stepped.1
stepped_nothing name now start end (Err (Step error)) stepped = absurd (nil_parts stepped.2.frame stepped.2.made stepped.2.others stepped.2.frames_are)
stepped_nothing name now start end (Err (InRead at)) stepped = absurd stepped
stepped_nothing name now start end (Err (Write written)) stepped = absurd stepped
stepped_nothing name now start end (Err TooLarge) stepped = absurd stepped
stepped_nothing name now start end (Err (InFrame error)) stepped = absurd stepped

exchanged_nothing : (name : Option (List ℕ)) (bits now : ℕ) (fault : Option SessionFault) (old new : InstanceState) (answer : SessionAnswer) →
    IsSessionAnswer name bits now (deferred (heard [] fault)) old new answer → new ≡ old
exchanged_nothing name bits now fault old new answer done =
    let said = done.heard refl in
    ap (λ (s : SoFar). s.instance) (stepped_nothing name now (so_far old no_effects) (so_far new answer.effects) said.steps said.stepped)

-- it is heard on, or no more
left_rests : (fault : Option ConnectionFault) (s : SessionPhase) → (left_at fault s ≡ s) ⊎ (left_at fault s ≡ over (name_of s))
left_rests None s = inl refl
left_rests (Some UnknownName) s = inr refl
left_rests (Some (Step error)) s = inr refl
left_rests (Some (InRead at)) s = inl refl
left_rests (Some (Write written)) s = inl refl
left_rests (Some TooLarge) s = inl refl
left_rests (Some (InFrame error)) s = inl refl

no_more : (talk talk' : Talk) → talk.waiting ≡ None → WaitsNoMore talk talk' → talk'.waiting ≡ None
no_more talk talk' none (inl same) = same ∙ none
no_more talk talk' none (inr is) = is

-- nothing is replied that wasn't
unsaid : (reply : Option ReplyBuilder) (old new : Saying) → reply ≡ None → SaysBy reply old new → new ≡ old
unsaid reply old new none says = subst (λ (r : Option ReplyBuilder). SaysBy r old new) none says

taken_lasts : (said : Spoken) (old new : InstanceState) (talk talk' : Talk) → said.request ≡ None → talk.waiting ≡ None → IsTaken said old talk new talk' → Lasts talk talk'
taken_lasts said old new talk talk' silent none taken =
    let same = unsaid taken.answer.reply talk.saying talk'.saying (taken.exchanged.heard silent).silent taken.saying in
    elim (left_rests taken.answer.fault talk.session) [
      | inl on ↦ inl (record {
        stays = record { auth_phase = taken.auth_phase; session = taken.session ∙ on; waiting = taken.waiting };
        silent = λ was. same ∙ was;
        saying = keeps_same talk.saying talk'.saying same;
      })
      | inr ends ↦ inr (record {
        auth_phase = taken.auth_phase;
        session = taken.session ∙ ends;
        waiting = no_more talk talk' none taken.waiting;
        saying = keeps_same talk.saying talk'.saying same;
      })
    ]

left_keeps : (said : Spoken) (old new : InstanceState) (talk talk' : Talk) → said.request ≡ None → IsLeft said old talk new talk' → Keeps talk.saying talk'.saying
left_keeps said old new talk talk' silent left = elim left.done [
  | inl refused ↦ refused.line
  | inr done ↦ no_request _ said silent (elsewhere_asked said done.elsewhere)
]

left_own : (said : Spoken) (old new : InstanceState) (talk talk' : Talk) → IsLeft said old talk new talk' → ForPages old new
left_own said old new talk talk' left = elim left.done [ inl refused ↦ nothing_made IsPagingEvent old new refused.same | inr done ↦ done.steps ]

silent_alone : (fault : Option SessionFault) (said : Spoken) (old new : InstanceState) (talk talk' : Talk) → said ≡ heard [] fault → talk.waiting ≡ None →
    IsAnswered said old talk new talk' → IsForPages old talk new talk'
silent_alone fault said old new talk talk' says none (inl taken) = record {
  steps = nothing_made IsPagingEvent old new (exchanged_nothing (name_of talk.session) taken.bits taken.now fault old new taken.answer
      (subst (λ (s : Spoken). IsSessionAnswer (name_of talk.session) taken.bits taken.now (deferred s) old new taken.answer) says taken.exchanged));
  lasts = taken_lasts said old new talk talk' (request_of said _ says) none taken;
}
silent_alone fault said old new talk talk' says none (inr (inl kept)) = no_request _ said (request_of said _ says) kept.request
silent_alone fault said old new talk talk' says none (inr (inr left)) = record {
  steps = left_own said old new talk talk' left;
  lasts = inr (record {
    auth_phase = left.closes.auth_phase;
    session = left.closes.session;
    waiting = no_more talk talk' none left.closes.waiting;
    saying = left_keeps said old new talk talk' (request_of said _ says) left;
  });
}

-- ---- deeds

-- steps that are no turns, as deeds
abbrev own_deeds : List Happened → List LifeDeed
own_deeds [] = []
own_deeds (step ∷ steps) = Own step ∷ own_deeds steps

own_of : (n : ℕ) (old : InstanceState) (steps : List Happened) (new : InstanceState) → AreStepsOf IsPagingEvent old steps new → AreOf n (own_deeds steps)
own_of n old [] new made = tt
own_of n old (step ∷ steps) new made = (made.0, own_of n step.left steps new made.2)

own_are : (old : InstanceState) (steps : List Happened) (new : InstanceState) → AreStepsOf IsOwnEvent old steps new → AreOwn (own_deeds steps)
own_are old [] new made = tt
own_are old (step ∷ steps) new made = (made.0, own_are step.left steps new made.2)

own_life : (Is : Event → Type 0) (session_phases : ℕ → SessionPhase) (old : InstanceState) (steps : List Happened) (new : InstanceState) → AreStepsOf Is old steps new →
    IsLife session_phases old (own_deeds steps) new
own_life Is session_phases old [] new same = same
own_life Is session_phases old (step ∷ steps) new made = (made.1, own_life Is session_phases step.left steps new made.2)

steps_stay : (m : ℕ) (steps : List Happened) (session_phases : ℕ → SessionPhase) → (session_phases_in session_phases (own_deeds steps) m ≡ session_phases m) × (turns_of m (own_deeds steps) ≡ [])
steps_stay m [] session_phases = (refl, refl)
steps_stay m (step ∷ steps) session_phases = steps_stay m steps session_phases

-- what a member does by itself is for no connection
pub acts_alone : (old new : InstanceState) → ByItself old new → (deeds : List LifeDeed) × AreOwn deeds × ((session_phases : ℕ → SessionPhase) → IsLife session_phases old deeds new)
acts_alone old new own =
    (own_deeds own.steps, own_are old own.steps new own.made, λ session_phases. own_life IsOwnEvent session_phases old own.steps new own.made)

-- a part of a life, behind which this is in accord
module _ (connection : ℕ) (session_phases : ℕ → SessionPhase) (old new : InstanceState) (turns : List Turn) where
  alone : ForPages old new → (P : SessionPhase → List Turn → Type 0) → P (session_phases connection) turns → LivesOn connection session_phases old new turns P
  alone own P accord =
      let stay = steps_stay connection own.steps session_phases in
      record {
        deeds = own_deeds own.steps;
        of = own_of connection old own.steps new own.made;
        life = own_life IsPagingEvent session_phases old own.steps new own.made;
        accord = subst (λ (s : SessionPhase). P s (turns ++ turns_of connection (own_deeds own.steps))) (sym stay.0)
            (subst (λ (l : List Turn). P (session_phases connection) l) (sym (ap (λ (l : List Turn). turns ++ l) stay.1 ∙ append-nil turns)) accord);
      }

-- ---- what was fed

-- the bytes of one turn more
bytes_more : (turns : List Turn) (turn : Turn) → bytes_in (turns ++ turn ∷ []) ≡ bytes_in turns ++ bytes_of turn.came
bytes_more [] turn = append-nil (bytes_of turn.came)
bytes_more (first ∷ turns) turn =
    ap (λ (l : List ℕ). bytes_of first.came ++ l) (bytes_more turns turn) ∙ sym (append_assoc (bytes_of first.came) (bytes_in turns) (bytes_of turn.came))

fed_by_turn : (fed : List ℕ) (turns : List Turn) (turn : Turn) → fed ≡ bytes_in turns ++ bytes_of turn.came → fed ≡ bytes_in (turns ++ turn ∷ []) ++ []
fed_by_turn fed turns turn e = e ∙ (sym (bytes_more turns turn) ∙ sym (append-nil (bytes_in (turns ++ turn ∷ []))))

are_fed_by_turn : (auth_phase : AuthPhase) (fed : List ℕ) (turns : List Turn) (turn : Turn) → AreFed auth_phase fed turns (bytes_of turn.came) → AreFed auth_phase fed (turns ++ turn ∷ []) []
are_fed_by_turn before fed turns turn e = fed_by_turn fed turns turn e
are_fed_by_turn passing fed turns turn e = fed_by_turn fed turns turn e
are_fed_by_turn (greeting bytes) fed turns turn e = tt
are_fed_by_turn (sealed place out bytes) fed turns turn e = tt
are_fed_by_turn shut fed turns turn e = tt

fed_piece : (fed piece : List ℕ) (turns : List Turn) → fed ≡ bytes_in turns ++ [] → fed ++ piece ≡ bytes_in turns ++ piece
fed_piece fed piece turns e = ap (λ (l : List ℕ). l ++ piece) (e ∙ append-nil (bytes_in turns))

are_fed_piece : (auth_phase : AuthPhase) (fed piece : List ℕ) (turns : List Turn) → AreFed auth_phase fed turns [] → AreFed auth_phase (fed ++ piece) turns piece
are_fed_piece before fed piece turns e = fed_piece fed piece turns e
are_fed_piece passing fed piece turns e = fed_piece fed piece turns e
are_fed_piece (greeting bytes) fed piece turns e = tt
are_fed_piece (sealed place out bytes) fed piece turns e = tt
are_fed_piece shut fed piece turns e = tt

-- the same, between what is the same
along : (auth_phase auth_phase' : AuthPhase) (fed : List ℕ) (turns : List Turn) (more : List ℕ) → auth_phase' ≡ auth_phase → AreFed auth_phase fed turns more → AreFed auth_phase' fed turns more
along auth_phase auth_phase' fed turns more same e = subst (λ (w : AuthPhase). AreFed w fed turns more) (sym same) e

-- ---- accord

same_session : (talk talk' : Talk) → talk.session ≡ over (name_of talk.session) → Lasts talk talk' → talk'.session ≡ talk.session
same_session talk talk' ended (inl idles) = idles.stays.session
same_session talk talk' ended (inr closes) = closes.session ∙ sym ended

same_way : (talk talk' : Talk) → Lasts talk talk' → talk'.auth_phase ≡ talk.auth_phase
same_way talk talk' (inl idles) = idles.stays.auth_phase
same_way talk talk' (inr closes) = closes.auth_phase

no_more_waits : (talk talk' : Talk) → talk.waiting ≡ None → Lasts talk talk' → talk'.waiting ≡ None
no_more_waits talk talk' none (inl idles) = no_more talk talk' none idles.stays.waiting
no_more_waits talk talk' none (inr closes) = closes.waiting

ended_on : (talk talk' : Talk) → talk.session ≡ over (name_of talk.session) → Lasts talk talk' → talk'.session ≡ over (name_of talk'.session)
ended_on talk talk' ended lasts = over_name talk'.session (name_of talk.session) (same_session talk talk' ended lasts ∙ ended)

keeps_saying : (talk talk' : Talk) → Lasts talk talk' → Keeps talk.saying talk'.saying
keeps_saying talk talk' (inl idles) = idles.saying
keeps_saying talk talk' (inr closes) = closes.saying

-- nothing is owed that isn't replied
silent_owed : (owed : Owed) (saying : Saying) → saying ≡ Silent → IsOwed owed saying
silent_owed owed saying silent = subst (IsOwed owed) (sym silent) tt

-- what is owed elsewhere stays so
still_elsewhere : (fed : List ℕ) (session_phase : SessionPhase) (turns : List Turn) (Is Then : Owed → Type 0) → ((owed : Owed) → Is owed → Then owed) →
    HasAskedElsewhere fed session_phase turns Is → HasAskedElsewhere fed session_phase turns Then
still_elsewhere fed session_phase turns Is Then on asks = record {
  came = asks.came;
  said = asks.said;
  left = asks.left;
  tells = asks.tells;
  elsewhere = asks.elsewhere;
  bytes = asks.bytes;
  owed = asks.owed;
  owes = asks.owes;
  such = on asks.owed asks.such;
}

-- where it stands
abbrev Stands : List ℕ → SessionPhase → List Turn → Talk → Type 0
Stands fed session_phase turns talk = IsHeard talk fed session_phase turns ⊎ (HasAsked talk fed session_phase turns ⊎ IsDone talk fed session_phase turns)

module _ (fed : List ℕ) (session_phase : SessionPhase) (turns : List Turn) (talk talk' : Talk) where
  asked_done : (asked : HasAsked talk fed session_phase turns) → Lasts talk talk' → talk'.waiting ≡ None → IsDone talk' fed session_phase turns
  asked_done asked lasts none = record {
    rest = bytes_of asked.came;
    waiting = none;
    ended = ended_on talk talk' asked.ended lasts;
    bytes = along talk.auth_phase talk'.auth_phase fed turns (bytes_of asked.came) (same_way talk talk' lasts) asked.bytes;
    owed = inl ((keeps_saying talk talk' lasts).owed (owed_by turns) (silent_owed (owed_by turns) talk.saying asked.silent));
  }

  asked_idles : (asked : HasAsked talk fed session_phase turns) (idles : Idles talk talk') → WaitsNoMore talk talk' → HasAsked talk' fed session_phase turns ⊎ IsDone talk' fed session_phase turns
  asked_idles asked idles (inl same) = inl (record {
    said = asked.said;
    came = asked.came;
    waiting = same ∙ asked.waiting;
    request = asked.request;
    tells = subst (λ (s : SessionPhase). Tells session_phase asked.came asked.said s) (sym idles.stays.session) asked.tells;
    ended = ended_on talk talk' asked.ended (inl idles);
    bytes = along talk.auth_phase talk'.auth_phase fed turns (bytes_of asked.came) idles.stays.auth_phase asked.bytes;
    plain = asked.plain;
    silent = idles.silent asked.silent;
  })
  asked_idles asked idles (inr none) = inr (asked_done asked (inl idles) none)

  -- what lasts stands where it stood
  lasts_as_said : Stands fed session_phase turns talk → Lasts talk talk' → Stands fed session_phase turns talk'
  lasts_as_said (inl is) (inl idles) = inl (record {
    waiting = no_more talk talk' is.waiting idles.stays.waiting;
    session = idles.stays.session ∙ is.session;
    bytes = along talk.auth_phase talk'.auth_phase fed turns [] idles.stays.auth_phase is.bytes;
    silent = λ still. idles.silent (is.silent (λ e. still (over_name talk'.session (name_of talk.session) (idles.stays.session ∙ e))));
    owed = idles.saying.owed (owed_by turns) is.owed;
  })
  lasts_as_said (inl is) (inr closes) = inr (inr (record {
    rest = [];
    waiting = closes.waiting;
    ended = over_name talk'.session (name_of talk.session) closes.session;
    bytes = along talk.auth_phase talk'.auth_phase fed turns [] closes.auth_phase is.bytes;
    owed = inl (closes.saying.owed (owed_by turns) is.owed);
  }))
  lasts_as_said (inr (inl asked)) (inl idles) = inr (asked_idles asked idles idles.stays.waiting)
  lasts_as_said (inr (inl asked)) (inr closes) = inr (inr (asked_done asked (inr closes) closes.waiting))
  lasts_as_said (inr (inr done)) lasts = inr (inr (record {
    rest = done.rest;
    waiting = no_more_waits talk talk' done.waiting lasts;
    ended = ended_on talk talk' done.ended lasts;
    bytes = along talk.auth_phase talk'.auth_phase fed turns done.rest (same_way talk talk' lasts) done.bytes;
    owed = elim done.owed [
      | inl owed ↦ inl ((keeps_saying talk talk' lasts).owed (owed_by turns) owed)
      | inr asks ↦ inr (still_elsewhere fed session_phase turns (λ o. IsOwed o talk.saying) (λ o. IsOwed o talk'.saying) (keeps_saying talk talk' lasts).owed asks)
    ];
  }))

-- the session of what lasts is the same, or over
lasts_session : (talk talk' : Talk) → Lasts talk talk' → (talk'.session ≡ talk.session) ⊎ (talk'.session ≡ over (name_of talk'.session))
lasts_session talk talk' (inl idles) = inl idles.stays.session
lasts_session talk talk' (inr closes) = inr (over_name talk'.session (name_of talk.session) closes.session)

-- what went out stays in order
same_order : (talk talk' : Talk) → talk'.auth_phase ≡ talk.auth_phase → gone_of talk'.saying ≡ gone_of talk.saying → (challenge_left talk.auth_phase ≡ []) ⊎ (gone_of talk.saying ≡ []) →
    (challenge_left talk'.auth_phase ≡ []) ⊎ (gone_of talk'.saying ≡ [])
same_order talk talk' auth_phase gone (inl left) = inl (ap challenge_left auth_phase ∙ left)
same_order talk talk' auth_phase gone (inr none) = inr (gone ∙ none)

-- what lasts stays in accord
lasts_in_accord : (passed : Passed) (session_phase : SessionPhase) (turns : List Turn) (talk talk' : Talk) → IsInAccord talk passed session_phase turns → Lasts talk talk' →
    IsInAccord talk' passed session_phase turns
lasts_in_accord passed session_phase turns talk talk' accord lasts = record {
  front = accord.front;
  gone = accord.gone ∙ ap (λ (l : List ℕ). accord.front ++ l) (sym (keeps_saying talk talk' lasts).gone);
  asked = front_on talk.auth_phase talk'.auth_phase talk.session talk'.session passed.fed accord.front (same_way talk talk' lasts) (lasts_session talk talk' lasts) accord.asked;
  order = same_order talk talk' (same_way talk talk' lasts) (keeps_saying talk talk' lasts).gone accord.order;
  stands = lasts_as_said passed.fed session_phase turns talk talk' accord.stands lasts;
}

-- ---- what is owed

owed_append : (owed : Owed) (turns : List Turn) (turn : Turn) → owed_on owed (turns ++ turn ∷ []) ≡ owed_after (owed_on owed turns) turn.answer.reply
owed_append owed [] turn = refl
owed_append owed (first ∷ turns) turn = owed_append (owed_after owed first.answer.reply) turns turn

-- what a step has begun is owed from then on
begun_owed : (owed : Owed) (reply : Option ReplyBuilder) (old new : Saying) → old ≡ Silent → SaysBy reply old new → IsOwed (owed_after owed reply) new
begun_owed owed None old new silent same = silent_owed owed new (same ∙ silent)
begun_owed owed (Some begun) old new silent by = by.owed (Reply begun) (silent_owed (Reply begun) old silent) (λ reply made. inl made)

begun_gone : (reply : Option ReplyBuilder) (old new : Saying) → SaysBy reply old new → gone_of new ≡ gone_of old
begun_gone None old new same = ap gone_of same
begun_gone (Some begun) old new by = by.gone

request_where : (A : Type 0) (request : Option Read) (said : Spoken) → said.request ≡ request → (said.request ≡ None → A) → (IsRequest said → A) → A
request_where A None said e none some = none e
request_where A (Some read) said e none some = some (read, e)

left_over : (fault : Option ConnectionFault) (s : SessionPhase) → s ≡ over (name_of s) → left_at fault s ≡ over (name_of (left_at fault s))
left_over fault s ended = elim (left_rests fault s) [
  | inl on ↦ over_name (left_at fault s) (name_of s) (on ∙ ended)
  | inr ends ↦ over_name (left_at fault s) (name_of s) ends
]

-- ---- what is said is answered

module _ (connection : ℕ) (session_phases : ℕ → SessionPhase) (old new : InstanceState) (turns : List Turn) (passed : Passed) (said : Spoken) (came : Came) (talk talk' : Talk) where
  -- the turn that it is
  abbrev turn_of : IsTaken said old talk new talk' → Turn
  turn_of taken =
      record { connection = connection; came = came; now = taken.now; bits = taken.bits; said = said; heard = talk.session; answer = taken.answer; left = new }

  -- what comes of it, where nothing waited and nothing was replied
  record Comes : Type 0 where
    none : talk.waiting ≡ None
    silent : talk.saying ≡ Silent
    front : List ℕ
    gone : passed.gone ≡ front ++ gone_of talk.saying
    asked : IsFront talk.auth_phase talk.session passed.fed front
    tells : Tells (session_phases connection) came said talk.session
    are : AreFed talk.auth_phase passed.fed turns (bytes_of came)
    plain : IsElsewhere said → passed.fed ≡ bytes_in turns ++ bytes_of came

  asked_ends : Comes → IsRequest said → talk.session ≡ over (name_of talk.session)
  asked_ends comes request = told_over (session_phases connection) came said talk.session comes.tells request

  taken_silent : (comes : Comes) (taken : IsTaken said old talk new talk') → talk'.session ≢ over (name_of talk'.session) → talk'.saying ≡ Silent
  taken_silent comes taken still = request_where (talk'.saying ≡ Silent) said.request said refl
      (λ none. unsaid taken.answer.reply talk.saying talk'.saying (taken.exchanged.heard none).silent taken.saying ∙ comes.silent)
      (λ request. absurd (still (subst (λ (s : SessionPhase). s ≡ over (name_of s)) (sym taken.session) (left_over taken.answer.fault talk.session (asked_ends comes request)))))

  taken_session : (taken : IsTaken said old talk new talk') → (talk'.session ≡ talk.session) ⊎ (talk'.session ≡ over (name_of talk'.session))
  taken_session taken = elim (left_rests taken.answer.fault talk.session) [
    | inl on ↦ inl (taken.session ∙ on)
    | inr ends ↦ inr (over_name talk'.session (name_of talk.session) (taken.session ∙ ends))
  ]

  taken_lives : Comes → IsTaken said old talk new talk' → LivesOn connection session_phases old new turns (IsInAccord talk' passed)
  taken_lives comes taken =
      let turn : Turn = turn_of taken in
      record {
        deeds = Served turn ∷ [];
        of = (refl, tt);
        life = (record { tells = comes.tells; answered = taken.exchanged }, refl);
        accord = subst (λ (s : SessionPhase). IsInAccord talk' passed s (turns ++ turns_of connection (Served turn ∷ [])))
            (sym (chosen_is connection connection (left_at taken.answer.fault talk.session) (session_phases connection) refl))
            (subst (λ (l : List Turn). IsInAccord talk' passed (left_at taken.answer.fault talk.session) (turns ++ l)) (sym (chosen_is connection connection (turn ∷ []) [] refl))
            (record {
              front = comes.front;
              gone = comes.gone ∙ ap (λ (l : List ℕ). comes.front ++ l) (sym (begun_gone taken.answer.reply talk.saying talk'.saying taken.saying));
              asked = front_on talk.auth_phase talk'.auth_phase talk.session talk'.session passed.fed comes.front taken.auth_phase (taken_session taken) comes.asked;
              order = inr (begun_gone taken.answer.reply talk.saying talk'.saying taken.saying ∙ ap gone_of comes.silent);
              stands = inl (record {
                waiting = no_more talk talk' comes.none taken.waiting;
                session = taken.session;
                bytes = along talk.auth_phase talk'.auth_phase passed.fed (turns ++ turn ∷ []) [] taken.auth_phase (are_fed_by_turn talk.auth_phase passed.fed turns turn comes.are);
                silent = taken_silent comes taken;
                owed = subst (λ (o : Owed). IsOwed o talk'.saying) (sym (owed_append Line turns turn))
                    (begun_owed (owed_by turns) taken.answer.reply talk.saying talk'.saying comes.silent taken.saying);
              });
            }));
      }

  kept_lives : Comes → IsKept said old talk new talk' → LivesOn connection session_phases old new turns (IsInAccord talk' passed)
  kept_lives comes kept =
      let session : talk'.session ≡ talk.session = ap (λ (t : Talk). t.session) kept.waits in
      let silent : talk'.saying ≡ Silent = ap (λ (t : Talk). t.saying) kept.waits in
      alone connection session_phases old new turns (nothing_made IsPagingEvent old new kept.same) (IsInAccord talk' passed) (record {
        front = comes.front;
        gone = comes.gone ∙ ap (λ (s : Saying). comes.front ++ gone_of s) (comes.silent ∙ sym silent);
        asked = front_on talk.auth_phase talk'.auth_phase talk.session talk'.session passed.fed comes.front (ap (λ (t : Talk). t.auth_phase) kept.waits) (inl session) comes.asked;
        order = inr (ap gone_of silent);
        stands = inr (inl (record {
          said = said;
          came = came;
          waiting = ap (λ (t : Talk). t.waiting) kept.waits;
          request = kept.request;
          tells = subst (λ (s : SessionPhase). Tells (session_phases connection) came said s) (sym session) comes.tells;
          ended = over_name talk'.session (name_of talk.session) (session ∙ asked_ends comes kept.request);
          bytes = along talk.auth_phase talk'.auth_phase passed.fed turns (bytes_of came) (ap (λ (t : Talk). t.auth_phase) kept.waits) comes.are;
          plain = comes.plain;
          silent = silent;
        }));
      })

  left_owed : Comes → IsLeft said old talk new talk' →
      IsOwed (owed_by turns) talk'.saying ⊎ HasAskedElsewhere passed.fed (session_phases connection) turns (λ o. IsOwed o talk'.saying)
  left_owed comes left = elim left.done [
    | inl refused ↦ inl (refused.line.owed (owed_by turns) (silent_owed (owed_by turns) talk.saying comes.silent))
    | inr done ↦ inr (record {
      came = came;
      said = said;
      left = talk.session;
      tells = comes.tells;
      elsewhere = done.elsewhere;
      bytes = comes.plain done.elsewhere;
      owed = done.owed;
      owes = done.owes;
      such = owes_owed said done.owed old new talk'.saying done.owes (done.given comes.silent);
    })
  ]

  left_gone : IsLeft said old talk new talk' → gone_of talk'.saying ≡ gone_of talk.saying
  left_gone left = elim left.done [ inl refused ↦ refused.line.gone | inr done ↦ done.gone ]

  left_lives : Comes → IsLeft said old talk new talk' → LivesOn connection session_phases old new turns (IsInAccord talk' passed)
  left_lives comes left = alone connection session_phases old new turns (left_own said old new talk talk' left) (IsInAccord talk' passed) (record {
    front = comes.front;
    gone = comes.gone ∙ ap (λ (l : List ℕ). comes.front ++ l) (sym (left_gone left));
    asked = front_on talk.auth_phase talk'.auth_phase talk.session talk'.session passed.fed comes.front left.closes.auth_phase
        (inr (over_name talk'.session (name_of talk.session) left.closes.session)) comes.asked;
    order = inr (left_gone left ∙ ap gone_of comes.silent);
    stands = inr (inr (record {
      rest = bytes_of came;
      waiting = no_more talk talk' comes.none left.closes.waiting;
      ended = over_name talk'.session (name_of talk.session) left.closes.session;
      bytes = along talk.auth_phase talk'.auth_phase passed.fed turns (bytes_of came) left.closes.auth_phase comes.are;
      owed = left_owed comes left;
    }));
  })

  answered_lives : Comes → IsAnswered said old talk new talk' → LivesOn connection session_phases old new turns (IsInAccord talk' passed)
  answered_lives comes (inl taken) = taken_lives comes taken
  answered_lives comes (inr (inl kept)) = kept_lives comes kept
  answered_lives comes (inr (inr left)) = left_lives comes left

-- ---- what passes an authenticator

-- the session comes to stand there by something that came, whose bytes are the piece, or of which nothing is claimed
record IsSaidBy (auth_phase : AuthPhase) (session : SessionPhase) (piece : List ℕ) (said : Spoken) (auth_phase' : AuthPhase) (session' : SessionPhase) : Type 0 where
  came : Came
  tells : Tells session came said session'
  fed : (fed : List ℕ) (turns : List Turn) → AreFed auth_phase fed turns [] → AreFed auth_phase' (fed ++ piece) turns (bytes_of came)
  plain : IsRequest said → (fed : List ℕ) (turns : List Turn) → AreFed auth_phase fed turns [] → fed ++ piece ≡ bytes_in turns ++ bytes_of came

-- nothing is said, and nothing is claimed of what was fed
record IsSilent (session : SessionPhase) (said : Spoken) (auth_phase' : AuthPhase) (session' : SessionPhase) : Type 0 where
  fault : Option SessionFault
  says : said ≡ heard [] fault
  stands : (session' ≡ session) ⊎ (session' ≡ over (name_of session))
  fed : (fed : List ℕ) (turns : List Turn) (more : List ℕ) → AreFed auth_phase' fed turns more

abbrev GoesThrough : AuthPhase → SessionPhase → List ℕ → Spoken → AuthPhase → SessionPhase → Type 0
GoesThrough auth_phase session piece said auth_phase' session' = IsSaidBy auth_phase session piece said auth_phase' session' ⊎ IsSilent session said auth_phase' session'

unclaimed : (auth_phase auth_phase' : AuthPhase) → ((fed : List ℕ) (turns : List Turn) (more : List ℕ) → AreFed auth_phase fed turns more) → auth_phase' ≡ auth_phase →
    (fed : List ℕ) (turns : List Turn) (more : List ℕ) → AreFed auth_phase' fed turns more
unclaimed auth_phase auth_phase' are same = λ fed turns more. along auth_phase auth_phase' fed turns more same (are fed turns more)

module _ (auth_phase : AuthPhase) (session : SessionPhase) (piece : List ℕ) (told : AuthOutput) (auth_phase' : AuthPhase) (session' : SessionPhase) where
  shut_unclaimed : auth_phase' ≡ shut → (fed : List ℕ) (turns : List Turn) (more : List ℕ) → AreFed auth_phase' fed turns more
  shut_unclaimed same = unclaimed shut auth_phase' (λ fed turns more. tt) same

  said_of : (said : Spoken) (fault : Option AuthFault) → told ≡ record { said = said; fault = fault } → told.said ≡ said
  said_of said fault e = ap (λ (t : AuthOutput). t.said) e

  turned_through : (fault : AuthFault) → IsTurnedBack fault session told auth_phase' session' → GoesThrough auth_phase session piece told.said auth_phase' session'
  turned_through fault back = inr (record { fault = None; says = said_of nothing (Some fault) back.0; stands = inr back.2; fed = shut_unclaimed back.1 })

  failed_through : (error : FrameError) → IsFailed error session told auth_phase' session' → GoesThrough auth_phase session piece told.said auth_phase' session'
  failed_through error failed = inr (record { fault = _; says = said_of _ None failed.0; stands = inr failed.2; fed = shut_unclaimed failed.1 })

  waits_through : (next : AuthPhase) → ((fed : List ℕ) (turns : List Turn) (more : List ℕ) → AreFed next fed turns more) → Waits next session told auth_phase' session' →
      GoesThrough auth_phase session piece told.said auth_phase' session'
  waits_through next are waits =
      inr (record { fault = None; says = said_of nothing None waits.0; stands = inl waits.2; fed = unclaimed next auth_phase' are waits.1 })

  -- what was fed, where it goes on as it came
  fed_on : ((fed : List ℕ) (turns : List Turn) → AreFed auth_phase fed turns [] → AreFed passing fed turns []) → auth_phase' ≡ passing →
      (fed : List ℕ) (turns : List Turn) → AreFed auth_phase fed turns [] → AreFed auth_phase' (fed ++ piece) turns piece
  fed_on opens same = λ fed turns are. along passing auth_phase' (fed ++ piece) turns piece same (are_fed_piece passing fed piece turns (opens fed turns are))

  passes_through : ((fed : List ℕ) (turns : List Turn) → AreFed auth_phase fed turns [] → AreFed passing fed turns []) → PassesOn session piece told auth_phase' session' →
      GoesThrough auth_phase session piece told.said auth_phase' session'
  passes_through opens passes = elim passes.0 [
    | inl says ↦ inl (record { came = Heard piece; tells = says; fed = fed_on opens passes.2; plain = λ asked fed turns are. fed_piece fed piece turns (opens fed turns are) })
    | inr lacks ↦ inl (record { came = FedAnyhow piece; tells = inr lacks; fed = fed_on opens passes.2; plain = λ asked fed turns are. fed_piece fed piece turns (opens fed turns are) })
  ]

  -- sealed frames, behind a greeting or none
  kept_through : (greeting_ : List ℕ) (mid : SessionPhase) (frames : List Frame) (error : Option SealError) → IsGreetedBy session greeting_ mid → told.said ≡ heard frames None →
      ((session' ≡ mid) ⊎ (session' ≡ over (name_of mid))) → ((fed : List ℕ) (turns : List Turn) (more : List ℕ) → AreFed auth_phase' fed turns more) →
      GoesThrough auth_phase session piece told.said auth_phase' session'
  kept_through greeting_ mid frames error met says goes_on are = inl (record {
    came = Opened greeting_ frames;
    tells = record { says = says; mid = mid; greets = met; goes_on = goes_on };
    fed = λ fed turns was. are (fed ++ piece) turns greeting_;
    plain = λ asked. no_request _ told.said (request_of told.said _ says) asked;
  })

  sealed_unclaimed : (next : Sequence) (out : ℕ) (rest : List ℕ) → auth_phase' ≡ sealed next out rest → (fed : List ℕ) (turns : List Turn) (more : List ℕ) → AreFed auth_phase' fed turns more
  sealed_unclaimed next out rest same = unclaimed (sealed next out rest) auth_phase' (λ fed turns more. tt) same

  goes_on_through : (greeting_ : List ℕ) (mid : SessionPhase) (frames : List Frame) (error : Option SealError) (next : Sequence) (out : ℕ) (rest : List ℕ) →
      IsGreetedBy session greeting_ mid → told.said ≡ heard frames None → SealedGoesOn error next out rest mid auth_phase' session' → GoesThrough auth_phase session piece told.said auth_phase' session'
  goes_on_through greeting_ mid frames None next out rest met says on = kept_through greeting_ mid frames None met says (inl on.1) (sealed_unclaimed next out rest on.0)
  goes_on_through greeting_ mid frames (Some error) next out rest met says on = kept_through greeting_ mid frames (Some error) met says (inr on.1) (shut_unclaimed on.0)

  takes_through : (lock : Lock) (sender : List ℕ) (place : Sequence) (out : ℕ) (bytes greeting_ : List ℕ) (mid : SessionPhase) → IsGreetedBy session greeting_ mid →
      TakesSealed lock sender place out mid bytes told auth_phase' session' → GoesThrough auth_phase session piece told.said auth_phase' session'
  takes_through lock sender place out bytes greeting_ mid met takes =
      goes_on_through greeting_ mid takes.0 takes.1 (after (length takes.0) place) out takes.2 met takes.4.said takes.4.goes_on

  greeted_by : (lock : Lock) (name : List ℕ) (place : Sequence) (text behind : List ℕ) (is : IsGreetedSealed lock name place session text behind told auth_phase' session') (fault : Option SessionFault) →
      is.said.fault ≡ fault → GoesThrough auth_phase session piece told.said auth_phase' session'
  greeted_by lock name place text behind is None e =
      takes_through lock name place 0 behind text is.mid (inr (is.said, is.greets, e)) (is.frames e)
  greeted_by lock name place text behind is (Some fault) e =
      let lacks = is.lacks fault e in
      inl (record {
        came = FedAnyhow text;
        tells = subst (λ (s : SessionPhase). Feeds session text told.said s) (sym lacks.2) (subst (λ (s : Spoken). Feeds session text s is.mid) (sym (said_of is.said None lacks.0)) is.greets);
        fed = λ fed turns was. shut_unclaimed lacks.1 (fed ++ piece) turns text;
        plain = λ asked. absurd (none-some fault (sym (feeds_sound session text is.said is.mid is.greets (subst IsRequest (said_of is.said None lacks.0) asked)) ∙ e));
      })

  hello_through : (lock : Lock) (challenge bytes : List ℕ) (hello : Result (Option (List ℕ × ℕ)) FrameError) → GreetsBy hello lock challenge session bytes told auth_phase' session' →
      GoesThrough auth_phase session piece told.said auth_phase' session'
  hello_through lock challenge bytes (Ok None) waits = waits_through (greeting bytes) (λ fed turns more. tt) waits
  hello_through lock challenge bytes (Ok (Some hello)) is = greeted_by lock hello.0 (first_in challenge) (take hello.1 bytes) (drop hello.1 bytes) is is.said.fault refl
  hello_through lock challenge bytes (Err error) failed = failed_through error failed

  greets_through : (lock : Lock) (challenge bytes : List ℕ) → GreetsSealed lock challenge session bytes told auth_phase' session' → GoesThrough auth_phase session piece told.said auth_phase' session'
  greets_through lock challenge bytes (inl by) = hello_through lock challenge bytes (hello_of bytes) by
  greets_through lock challenge bytes (inr failed) = failed_through _ failed

  unseals_through : (lock : Lock) (place : Sequence) (out : ℕ) (bytes : List ℕ) (name : Option (List ℕ)) → UnsealsFrom name lock place out session bytes told auth_phase' session' →
      GoesThrough auth_phase session piece told.said auth_phase' session'
  unseals_through lock place out bytes None back = turned_through _ back
  unseals_through lock place out bytes (Some sender) takes = takes_through lock sender place out bytes [] session (inl (refl, refl)) takes

-- a first byte passes
module _ (session : SessionPhase) (first : ℕ) (behind : List ℕ) (told : AuthOutput) (auth_phase' : AuthPhase) (session' : SessionPhase) where
  abbrev Through : Type 0
  Through = GoesThrough before session (first ∷ behind) told.said auth_phase' session'

  on : PassesOn session (first ∷ behind) told auth_phase' session' → Through
  on passes = passes_through before session (first ∷ behind) told auth_phase' session' (λ fed turns are. are) passes

  back : (fault : AuthFault) → IsTurnedBack fault session told auth_phase' session' → Through
  back fault turned = turned_through before session (first ∷ behind) told auth_phase' session' fault turned

  asks_through : (kind : AcceptedProtocols) → AsksAtGate kind session (first ∷ behind) told auth_phase' session' → Through
  asks_through Frames turned = back _ turned
  asks_through Requests passes = on passes
  asks_through Both passes = on passes

  knocks_through : (lock : Lock) (challenge : List ℕ) → Knocks lock challenge first behind session told auth_phase' session' → Through
  knocks_through lock challenge knocks = elim (cases_order first 1) [
    | inl is ↦ greets_through before session (first ∷ behind) told auth_phase' session' lock challenge behind (knocks.sealed_ is)
    | inr (inl below) ↦ back _ (knocks.open_ (λ is. absurd (omega (arith, is, below))))
    | inr (inr above) ↦ back _ (knocks.open_ (λ is. absurd (omega (arith, is, above))))
  ]

  sends_through : (kind : AcceptedProtocols) (lock : Option Lock) (challenge : List ℕ) → Sends kind lock challenge first behind session told auth_phase' session' → Through
  sends_through Requests lock challenge turned = back _ turned
  sends_through Frames None challenge passes = on passes
  sends_through Both None challenge passes = on passes
  sends_through Frames (Some lock) challenge knocks = knocks_through lock challenge knocks
  sends_through Both (Some lock) challenge knocks = knocks_through lock challenge knocks

  begins_through : (kind : AcceptedProtocols) (lock : Option Lock) (challenge : List ℕ) → BeginsAtGate kind lock challenge first behind session told auth_phase' session' → Through
  begins_through kind lock challenge begins = elim (cases_lt first 32) [
    | inl below ↦ sends_through kind lock challenge (begins.peer below)
    | inr from ↦ asks_through kind (begins.request from)
  ]

-- what comes of a piece with a byte
gate_through : (kind : AcceptedProtocols) (lock : Option Lock) (challenge : List ℕ) (auth_phase : AuthPhase) (session : SessionPhase) (piece : List ℕ) (told : AuthOutput) (auth_phase' : AuthPhase) (session' : SessionPhase) → piece ≢ [] →
    Passes kind lock challenge auth_phase session piece told auth_phase' session' → GoesThrough auth_phase session piece told.said auth_phase' session'
gate_through kind lock challenge before session [] told auth_phase' session' some passes = absurd (some refl)
gate_through kind lock challenge before session (first ∷ behind) told auth_phase' session' some passes = begins_through session first behind told auth_phase' session' kind lock challenge passes
gate_through kind None challenge passing session piece told auth_phase' session' some passes = passes_through passing session piece told auth_phase' session' (λ fed turns are. are) passes
gate_through kind (Some lock) challenge passing session piece told auth_phase' session' some passes = passes_through passing session piece told auth_phase' session' (λ fed turns are. are) passes
gate_through kind None challenge (greeting bytes) session piece told auth_phase' session' some passes = waits_through (greeting bytes) session piece told auth_phase' session' shut (λ fed turns more. tt) passes
gate_through kind (Some lock) challenge (greeting bytes) session piece told auth_phase' session' some passes =
    greets_through (greeting bytes) session piece told auth_phase' session' lock challenge (bytes ++ piece) passes
gate_through kind None challenge (sealed place out bytes) session piece told auth_phase' session' some passes =
    waits_through (sealed place out bytes) session piece told auth_phase' session' shut (λ fed turns more. tt) passes
gate_through kind (Some lock) challenge (sealed place out bytes) session piece told auth_phase' session' some passes =
    unseals_through (sealed place out bytes) session piece told auth_phase' session' lock place out (bytes ++ piece) (name_of session) passes
gate_through kind None challenge shut session piece told auth_phase' session' some passes = waits_through shut session piece told auth_phase' session' shut (λ fed turns more. tt) passes
gate_through kind (Some lock) challenge shut session piece told auth_phase' session' some passes = waits_through shut session piece told auth_phase' session' shut (λ fed turns more. tt) passes

-- ---- calls

sent_owed : (count : ℕ) (owed : Owed) (saying : Saying) → IsOwed owed saying → IsOwed owed (sent_on count saying)
sent_owed count owed Silent was = was
sent_owed count owed (Making making) was = was
sent_owed count owed (Elsewhere call) was = was
sent_owed count owed (HeldBack reply) was = was
sent_owed count owed (Out reply written) was = was

sent_silent : (count : ℕ) (saying : Saying) → saying ≡ Silent → sent_on count saying ≡ Silent
sent_silent count saying silent = ap (sent_on count) silent

module _ (fed : List ℕ) (session_phase : SessionPhase) (turns : List Turn) (talk : Talk) (bytes : List ℕ) where
  abbrev talk_sent : Talk
  talk_sent = sent_in (length bytes) talk

  -- of the reply
  abbrev count : ℕ
  count = length bytes - length (challenge_left talk.auth_phase)

  sent_fed : (auth_phase : AuthPhase) (more : List ℕ) (first : ℕ) → AreFed auth_phase fed turns more → AreFed (challenge_sent first auth_phase) fed turns more
  sent_fed before more first are = are
  sent_fed passing more first are = are
  sent_fed (greeting text) more first are = are
  sent_fed (sealed place out text) more first are = are
  sent_fed shut more first are = are

  abbrev first_of : ℕ
  first_of = min (length bytes) (length (challenge_left talk.auth_phase))

  sent_phase : Stands fed session_phase turns talk → Stands fed session_phase turns talk_sent
  sent_phase (inl is) = inl (record {
    waiting = is.waiting;
    session = is.session;
    bytes = sent_fed talk.auth_phase [] first_of is.bytes;
    silent = λ still. sent_silent count talk.saying (is.silent still);
    owed = sent_owed count (owed_by turns) talk.saying is.owed;
  })
  sent_phase (inr (inl asked)) = inr (inl (record {
    said = asked.said;
    came = asked.came;
    waiting = asked.waiting;
    request = asked.request;
    tells = asked.tells;
    ended = asked.ended;
    bytes = sent_fed talk.auth_phase (bytes_of asked.came) first_of asked.bytes;
    plain = asked.plain;
    silent = sent_silent count talk.saying asked.silent;
  }))
  sent_phase (inr (inr done)) = inr (inr (record {
    rest = done.rest;
    waiting = done.waiting;
    ended = done.ended;
    bytes = sent_fed talk.auth_phase done.rest first_of done.bytes;
    owed = elim done.owed [
      | inl owed ↦ inl (sent_owed count (owed_by turns) talk.saying owed)
      | inr asks ↦ inr (still_elsewhere fed session_phase turns (λ o. IsOwed o talk.saying) (λ o. IsOwed o (sent_on count talk.saying))
          (λ o was. sent_owed count o talk.saying was) asks)
    ];
  }))

-- what passed, by what was fed more, or went out
abbrev both : List ℕ → List ℕ → Passed
both fed gone = record { fed = fed; gone = gone }

passed_same : (f f' g g' : List ℕ) → f ≡ f' → g ≡ g' → both f g ≡ both f' g'
passed_same f f' g g' e h = ap (λ (x : List ℕ). both x g) e ∙ ap (λ (y : List ℕ). both f' y) h

module _ (connection : ℕ) (session_phases : ℕ → SessionPhase) (old new : InstanceState) (turns : List Turn) (passed : Passed) (talk talk' : Talk) where
  -- how it goes on, behind what passed
  abbrev OnBehind : Passed → Type 0
  OnBehind more = LivesOn connection session_phases old new turns (IsInAccord talk' more)

  abbrev fed_more : List ℕ → Passed
  fed_more piece = both (passed.fed ++ piece) passed.gone

  alone_lives : IsInAccord talk passed (session_phases connection) turns → IsForPages old talk new talk' → OnBehind passed
  alone_lives accord is = alone connection session_phases old new turns is.steps (IsInAccord talk' passed) (lasts_in_accord passed (session_phases connection) turns talk talk' accord is.lasts)

  still_lives : IsInAccord talk passed (session_phases connection) turns → IsStill old talk new talk' → OnBehind passed
  still_lives accord is = alone_lives accord (record { steps = nothing_made IsPagingEvent old new is.same; lasts = is.lasts })

  screened_lives : (piece : List ℕ) → IsInAccord talk passed (session_phases connection) turns → IsHeard talk passed.fed (session_phases connection) turns → new ≡ old → IsClosed talk talk' →
      OnBehind (fed_more piece)
  screened_lives piece accord is same closes = alone connection session_phases old new turns (nothing_made IsPagingEvent old new same) (IsInAccord talk' (fed_more piece)) (record {
    front = accord.front;
    gone = accord.gone ∙ ap (λ (l : List ℕ). accord.front ++ l) (sym closes.saying.gone);
    asked = front_ends talk.auth_phase talk'.auth_phase talk.session talk'.session passed.fed piece accord.front closes.auth_phase
        (over_name talk'.session (name_of talk.session) closes.session) accord.asked;
    order = same_order talk talk' closes.auth_phase closes.saying.gone accord.order;
    stands = inr (inr (record {
      rest = piece;
      waiting = closes.waiting;
      ended = over_name talk'.session (name_of talk.session) closes.session;
      bytes = along talk.auth_phase talk'.auth_phase (passed.fed ++ piece) turns piece closes.auth_phase (are_fed_piece talk.auth_phase passed.fed piece turns is.bytes);
      owed = inl (closes.saying.owed (owed_by turns) is.owed);
    }));
  })

  -- it is behind its authenticator
  abbrev behind_gate : AuthPhase → SessionPhase → Talk
  behind_gate auth_phase session = record talk { auth_phase = auth_phase; session = session }

  silent_phase : (piece : List ℕ) (said : Spoken) (auth_phase : AuthPhase) (session : SessionPhase) → IsHeard talk passed.fed (session_phases connection) turns → talk.saying ≡ Silent → IsSilent talk.session said auth_phase session →
      ((session ≡ talk.session) ⊎ (session ≡ over (name_of talk.session))) →
      Stands (passed.fed ++ piece) (session_phases connection) turns (behind_gate auth_phase session)
  silent_phase piece said auth_phase session is quiet silent (inl same) = inl (record {
    waiting = is.waiting;
    session = same ∙ is.session;
    bytes = silent.fed (passed.fed ++ piece) turns [];
    silent = λ still. quiet;
    owed = is.owed;
  })
  silent_phase piece said auth_phase session is quiet silent (inr ends) = inr (inr (record {
    rest = [];
    waiting = is.waiting;
    ended = over_name session (name_of talk.session) ends;
    bytes = silent.fed (passed.fed ++ piece) turns [];
    owed = inl is.owed;
  }))

  let_in_lives : (lock : Option Lock) (piece : List ℕ) (accord : IsInAccord talk passed (session_phases connection) turns) → IsHeard talk passed.fed (session_phases connection) turns → talk.saying ≡ Silent →
      (let_in : IsLetIn lock piece old talk new talk') → IsFront let_in.auth_phase let_in.session (passed.fed ++ piece) accord.front →
      GoesThrough talk.auth_phase talk.session piece let_in.told.said let_in.auth_phase let_in.session → OnBehind (fed_more piece)
  let_in_lives lock piece accord is quiet let_in front (inl said) =
      answered_lives connection session_phases old new turns (fed_more piece) let_in.told.said said.came (behind_gate let_in.auth_phase let_in.session) talk'
      (record {
        none = is.waiting;
        silent = quiet;
        front = accord.front;
        gone = accord.gone;
        asked = front;
        tells = subst (λ (s : SessionPhase). Tells s said.came let_in.told.said let_in.session) is.session said.tells;
        are = said.fed passed.fed turns is.bytes;
        plain = λ elsewhere. said.plain (elsewhere_asked let_in.told.said elsewhere) passed.fed turns is.bytes;
      }) let_in.answered
  let_in_lives lock piece accord is quiet let_in front (inr silent) =
      let alone_ = silent_alone silent.fault let_in.told.said old new (behind_gate let_in.auth_phase let_in.session) talk' silent.says is.waiting let_in.answered in
      alone connection session_phases old new turns alone_.steps (IsInAccord talk' (fed_more piece))
      (lasts_in_accord (fed_more piece) (session_phases connection) turns (behind_gate let_in.auth_phase let_in.session) talk'
      (record { front = accord.front; gone = accord.gone; asked = front; order = inr (ap gone_of quiet); stands = silent_phase piece let_in.told.said let_in.auth_phase let_in.session is quiet silent silent.stands }) alone_.lasts)

  fed_lives : (lock : Option Lock) (piece : List ℕ) → IsInAccord talk passed (session_phases connection) turns → IsFed lock piece old talk new talk' → OnBehind (fed_more piece)
  fed_lives lock piece accord call = elim accord.stands [
    | inl is ↦ elim call.comes [
      | inl screened ↦ screened_lives piece accord is screened.0 screened.1
      | inr let_in ↦ let_in_lives lock piece accord is (is.silent call.open_) let_in
          (gate_fronts let_in.accepts lock let_in.challenge talk.auth_phase talk.session piece let_in.told let_in.auth_phase let_in.session passed.fed accord.front let_in.long
          call.has_byte call.open_ let_in.passes accord.asked)
          (gate_through let_in.accepts lock let_in.challenge talk.auth_phase talk.session piece let_in.told let_in.auth_phase let_in.session call.has_byte let_in.passes)
    ]
    | inr (inl asked) ↦ absurd (call.open_ asked.ended)
    | inr (inr done) ↦ absurd (call.open_ done.ended)
  ]

  ended_lives : IsInAccord talk passed (session_phases connection) turns → IsEnded old talk new talk' → OnBehind passed
  ended_lives accord call = elim accord.stands [
    | inl is ↦ answered_lives connection session_phases old new turns passed call.said AtEnd (record talk { session = over (name_of talk.session) }) talk'
        (record {
          none = is.waiting;
          silent = is.silent call.open_;
          front = accord.front;
          gone = accord.gone;
          asked = front_on talk.auth_phase talk.auth_phase talk.session (over (name_of talk.session)) passed.fed accord.front refl (inr refl) accord.asked;
          tells = subst (λ (s : SessionPhase). Tells s AtEnd call.said (over (name_of talk.session))) is.session (call.says, refl);
          are = is.bytes;
          plain = λ elsewhere. end_elsewhere _ talk.session call.said call.says elsewhere;
        }) call.answered
    | inr (inl asked) ↦ absurd (call.open_ asked.ended)
    | inr (inr done) ↦ absurd (call.open_ done.ended)
  ]

  abbrev taken_up : Option Spoken → Type 0
  taken_up waiting = IsTakenUp waiting old talk new talk'

  called_on : taken_up None → IsCalledOn old talk new talk'
  called_on call = call

  resumed_lives : IsInAccord talk passed (session_phases connection) turns → IsTakenUp talk.waiting old talk new talk' → OnBehind passed
  resumed_lives accord call = elim accord.stands [
    | inl is ↦ alone_lives accord (called_on (subst taken_up is.waiting call)).pages
    | inr (inl asked) ↦ answered_lives connection session_phases old new turns passed asked.said asked.came (record talk { waiting = None }) talk'
        (record { none = refl; silent = asked.silent; front = accord.front; gone = accord.gone; asked = accord.asked; tells = asked.tells; are = asked.bytes; plain = asked.plain })
        (subst taken_up asked.waiting call asked.request)
    | inr (inr done) ↦ alone_lives accord (called_on (subst taken_up done.waiting call)).pages
  ]

  sent_lives : (bytes : List ℕ) → IsInAccord talk passed (session_phases connection) turns → IsSent bytes old talk new talk' → OnBehind (both passed.fed (passed.gone ++ bytes))
  sent_lives bytes accord call = alone connection session_phases old new turns (nothing_made IsPagingEvent old new call.same) (IsInAccord talk' (both passed.fed (passed.gone ++ bytes)))
      (subst (λ (t : Talk). IsInAccord t (both passed.fed (passed.gone ++ bytes)) (session_phases connection) turns) (sym call.sent) (record {
        front = front_then bytes talk passed.fed accord.front passed.gone accord.gone accord.asked accord.order call.first;
        gone = gone_then bytes talk passed.fed accord.front passed.gone accord.gone accord.asked accord.order call.first;
        asked = asked_then bytes talk passed.fed accord.front passed.gone accord.gone accord.asked accord.order call.first;
        order = order_then bytes talk passed.fed accord.front passed.gone accord.gone accord.asked accord.order call.first;
        stands = sent_phase passed.fed (session_phases connection) turns talk bytes accord.stands;
      }))

  nothing_more : OnBehind passed → OnBehind (passed_on passed [])
  nothing_more on = subst OnBehind (passed_same passed.fed (passed.fed ++ []) passed.gone (passed.gone ++ []) (sym (append-nil passed.fed)) (sym (append-nil passed.gone))) on

  -- a call for a connection is turns of it, and steps that the member makes by itself
  pub does_lives : (lock : Option Lock) (deed : Deed) → IsInAccord talk passed (session_phases connection) turns → Does lock deed old talk new talk' → OnBehind (passed_on passed (deed ∷ []))
  does_lives lock (Fed piece) accord call = subst OnBehind (passed_same _ _ _ _ (ap (λ (l : List ℕ). passed.fed ++ l) (sym (append-nil piece))) (sym (append-nil passed.gone))) (fed_lives lock piece accord call)
  does_lives lock Ended accord call = nothing_more (ended_lives accord call)
  does_lives lock Resumed accord call = nothing_more (resumed_lives accord call)
  does_lives lock (Sent bytes) accord call = subst OnBehind (passed_same _ _ _ _ (sym (append-nil passed.fed)) (ap (λ (l : List ℕ). passed.gone ++ l) (sym (append-nil bytes)))) (sent_lives bytes accord call)
  does_lives lock Released accord call = nothing_more (still_lives accord call)
  does_lives lock ReachedDeadline accord call = nothing_more (alone_lives accord call.pages)
  does_lives lock AbandonedWait accord call = nothing_more (still_lives accord call)
  does_lives lock (BrokenOff broken) accord call = nothing_more (still_lives accord call)

-- a connection over which nothing passed is in accord
pub fresh_in_accord : (talk : Talk) → talk ≡ fresh_talk → IsInAccord talk nothing_passed fresh []
fresh_in_accord talk same = subst (λ (t : Talk). IsInAccord t nothing_passed fresh []) (sym same)
    (record { front = []; gone = refl; asked = (refl, λ _. refl); order = inl refl; stands = inl (record { waiting = refl; session = refl; bytes = refl; silent = λ still. refl; owed = tt }) })

-- ---- what was replied

pub none_replied : IsReplied nothing_passed fresh []
none_replied = record { front = []; rest = []; gone = refl; asked = inl refl; replied = inl refl }

first_taken : (written : ℕ) (bytes : List ℕ) → IsFirstPart (take written bytes) bytes
first_taken written bytes = sym (ap (λ n. take n bytes) (length-take written bytes) ∙ take_min written bytes)

module _ (passed : Passed) (session_phase : SessionPhase) (turns : List Turn) where
  -- what is replied of one that is owed
  abbrev Replies : Saying → Type 0
  Replies saying = (gone_of saying ≡ []) ⊎ ((reply : ResponseBytes) × IsFirstPart (gone_of saying) (reply_bytes reply) × IsMeantFor passed.fed session_phase turns reply)

  owed_replied : (saying : Saying) → IsOwed (owed_by turns) saying ⊎ HasAskedElsewhere passed.fed session_phase turns (λ o. IsOwed o saying) → Replies saying
  owed_replied Silent owed = inl refl
  owed_replied (Making making) owed = inl refl
  owed_replied (Elsewhere call) owed = inl refl
  owed_replied (HeldBack reply) owed = inl refl
  owed_replied (Out reply written) owed = inr (reply, first_taken written (reply_bytes reply), owed)

  stands_replied : (talk : Talk) → Stands passed.fed session_phase turns talk → Replies talk.saying
  stands_replied talk (inl is) = owed_replied talk.saying (inl is.owed)
  stands_replied talk (inr (inl asked)) = inl (ap gone_of asked.silent)
  stands_replied talk (inr (inr done)) = owed_replied talk.saying done.owed

-- what went out over a connection in accord is of one reply, and of the right one, but for its challenge before
pub replied_in_accord : (talk : Talk) (passed : Passed) (session_phase : SessionPhase) (turns : List Turn) → IsInAccord talk passed session_phase turns → IsReplied passed session_phase turns
replied_in_accord talk passed session_phase turns accord = record {
  front = accord.front;
  rest = gone_of talk.saying;
  gone = accord.gone;
  asked = front_bound talk.auth_phase talk.session passed.fed accord.front accord.asked;
  replied = stands_replied passed session_phase turns talk accord.stands;
}

-- ---- calls that are for no session

module _ {S T : Type 0} (instance_of : S → InstanceState) (law : Service S T) where
  -- one that is for a peer leaves the instance, and another makes steps by itself
  pub call_alone : ((s s' : S) → law.acts s s' → ByItself (instance_of s) (instance_of s'))
      → ((s : S) (peer : ℕ) (fault : LinkFault) (s' : S) → law.loses s peer fault s' → instance_of s' ≡ instance_of s)
      → ((s : S) (peer : ℕ) (bytes : List ℕ) (s' : S) → law.answers s peer bytes s' → instance_of s' ≡ instance_of s)
      → ((s : S) (peer : ℕ) (answer : List ℕ) (more : Option (List ℕ)) (s' : S) → law.gives s peer answer more s' → instance_of s' ≡ instance_of s)
      → ((s : S) (peer : ℕ) (bytes : List ℕ) (s' : S) → law.offers s peer bytes s' → instance_of s' ≡ instance_of s)
      → ((s : S) (peer : ℕ) (bytes : List ℕ) (s' : S) → law.asks s peer bytes s' → instance_of s' ≡ instance_of s)
      → (s s' : S) → IsCall law s s' → ByItself (instance_of s) (instance_of s')
  call_alone acted lost answered given offered asked s s' (inl call) = acted s s' call
  call_alone acted lost answered given offered asked s s' (inr (inl call)) = nothing_made IsOwnEvent (instance_of s) (instance_of s') (lost s call.0 call.1 s' call.2)
  call_alone acted lost answered given offered asked s s' (inr (inr (inl call))) = nothing_made IsOwnEvent (instance_of s) (instance_of s') (answered s call.0 call.1 s' call.2)
  call_alone acted lost answered given offered asked s s' (inr (inr (inr (inl call)))) = nothing_made IsOwnEvent (instance_of s) (instance_of s') (given s call.0 call.1 call.2 s' call.3)
  call_alone acted lost answered given offered asked s s' (inr (inr (inr (inr (inl call))))) = nothing_made IsOwnEvent (instance_of s) (instance_of s') (offered s call.0 call.1 s' call.2)
  call_alone acted lost answered given offered asked s s' (inr (inr (inr (inr (inr call))))) = nothing_made IsOwnEvent (instance_of s) (instance_of s') (asked s call.0 call.1 s' call.2)
