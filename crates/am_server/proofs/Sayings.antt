-- The replies, one call after the other.
use Rattle.std.proofs.Common.{◌≡◌, ◌⊎◌, ◌∙◌, ℕ, Bool, false, ◌||◌, not, List, [], None, inl, inr, refl, sym, subst, ap}
use Rattle.am_wire.specs.declared.unknown.Unknown.TheVariants.{Drop}
use Rattle.am_matcher.specs.declared.dialect.Dialect.TheVariants.{Regex}
use Rattle.am_api_silences.specs.Answers.{IsRefusalAnswer, WhenMade}
use Rattle.am_api_silences.specs.ReplyBuilder.{IsMadeOf, Makes}
use Rattle.am_api_silences.specs.Replies.{Says, line_bytes}
use Rattle.am_api_silences.specs.Table.{memory_line, refused_line}
use Rattle.am_api_silences.specs.declared.answering.PendingAnswer.{PendingAnswer}
use Rattle.am_api_silences.specs.declared.reply_builder.ReplyBuilder.{ReplyBuilder}
use Rattle.am_api_silences.specs.declared.replies.ResponseBytes.{ResponseBytes}
use Rattle.am_api_silences.specs.declared.replies.ResponseBytes.TheVariants.{Own, Fixed}
use Rattle.am_http.specs.Hosts.{line_of_foreign}
use Rattle.am_http.specs.Lines.{RefusalLine, line_of, line_seen, told_to}
use Rattle.am_http.specs.declared.cause.Cause.TheVariants.{BadFilter}
use Rattle.am_http.specs.declared.hosts.Foreign.{Foreign}
use Rattle.am_http.specs.declared.hosts.Foreign.TheVariants.{Host, Origin}
use Rattle.am_http.specs.declared.refusal.Refusal.{Refusal}
use Rattle.am_instance.specs.InstanceStates.{InstanceState}
use Rattle.am_server.specs.declared.connection_state.UncommittedReply.{UncommittedReply}
use Rattle.am_server.specs.declared.connection_state.ConnectionWork.{ConnectionWork}
use Rattle.am_server.specs.declared.connection_state.ConnectionWork.TheVariants.{Uncommitted as HeldBackAs}
use Rattle.am_server.specs.Calls.{IsProgressOf, WhenTold}
use Rattle.am_server.specs.Talks.{IsClosed, IsComing, IsLine, IsOwed, IsOwnLine, IsReleased, OwnCause, IsReplyTo, Keeps, KeepsBy, KeepsGone, KeepsIf, Lasts, Owed, Rests, Saying, Stays, Talk, TellsLine, WaitsNoMore, gone_of, own_line, said_next}
use Rattle.am_server.specs.Talks.Owed.{Line, Reply, Answer, Given, Other}
use Rattle.am_server.specs.Talks.OwnCause.{IsForeign, NotReady, StateTooLarge, FilterTooLarge, PatternTooLarge, TooManyPatterns, NotKept, OutOfMemory}
use Rattle.am_silence.specs.declared.error.SilenceError.TheVariants.{BadPattern}
use Rattle.am_http.specs.declared.request.Request.{Request}
use Rattle.am_server.specs.declared.connection_state.CallProgress.{CallProgress}
use Rattle.am_server.specs.Talks.Saying.{Silent, Making, Elsewhere, Held, Out}

pub keeps_same : (old new : Saying) → new ≡ old → Keeps old new
keeps_same old new same = record { owed = λ owed was. subst (IsOwed owed) (sym same) was; gone = ap gone_of same }

pub keeps_on : (a b c : Saying) → Keeps a b → Keeps b c → Keeps a c
keeps_on a b c first then = record { owed = λ owed was. then.owed owed (first.owed owed was); gone = then.gone ∙ first.gone }

-- finished from this, and kept then
pub by_on : (making : ReplyBuilder) (a b c : Saying) → KeepsBy making a b → Keeps b c → KeepsBy making a c
by_on making a b c first then = record { owed = λ owed was makes. then.owed owed (first.owed owed was makes); gone = then.gone ∙ first.gone }

-- (whatever an instance is, a refusal tells nothing of it)
no_instance : InstanceState
no_instance = record { config = record { members = []; place = 0; retention = 0; peer_timeout = 0; dialect = Regex; unknown = Drop }; silences = []; log = []; last = 0 }

-- a line is replied whatever was owed
line_to : (owed : Owed) (reply : ResponseBytes) → IsLine reply → IsReplyTo owed reply
line_to Line reply line = line
line_to (Reply begun) reply line = inr line
line_to (Answer request) reply line = (no_instance, no_instance, inr (inr line))
line_to (Given request old new) reply line = inr (inr line)
line_to Other reply line = tt

pub next_owed : (owed : Owed) (reply : ResponseBytes) (old : Saying) → IsOwed owed old → IsReplyTo owed reply → IsOwed owed (said_next reply old)
next_owed owed reply Silent was is = is
next_owed owed reply (Making making) was is = is
next_owed owed reply (Elsewhere call) was is = is
next_owed owed reply (Held held) was is = is
next_owed owed reply (Out other written) was is = was

pub next_gone : (reply : ResponseBytes) (old : Saying) → KeepsGone old (said_next reply old)
next_gone reply Silent = refl
next_gone reply (Making making) = refl
next_gone reply (Elsewhere call) = refl
next_gone reply (Held held) = refl
next_gone reply (Out other written) = refl

pub keeps_line : (reply : ResponseBytes) (old new : Saying) → new ≡ said_next reply old → IsLine reply → Keeps old new
keeps_line reply old new is line = keeps_on old (said_next reply old) new
    (record { owed = λ owed was. next_owed owed reply old was (line_to owed reply line); gone = next_gone reply old }) (keeps_same _ new is)

-- ---- the lines of a member's own refusals

foreign_whole : (what : Foreign) (to_head : Bool) → record (line_of_foreign what to_head) { bare = false } ≡ line_of_foreign what false
foreign_whole Host to_head = refl
foreign_whole Origin to_head = refl

own_whole : (cause : OwnCause) → record (own_line cause) { bare = false } ≡ own_line cause
own_whole (IsForeign what) = foreign_whole what false
own_whole NotReady = refl
own_whole StateTooLarge = refl
own_whole FilterTooLarge = refl
own_whole PatternTooLarge = refl
own_whole TooManyPatterns = refl
own_whole NotKept = refl
own_whole OutOfMemory = refl

-- a whole line for one of the causes
pub told_own : (cause : OwnCause) (told : RefusalLine) → told ≡ own_line cause → IsOwnLine told
told_own cause told is = (cause, subst (λ (l : RefusalLine). record l { bare = false } ≡ own_line cause) (sym is) (own_whole cause))

-- the same line as it is told to a request with a method
pub headed_own : (cause : OwnCause) (method : List ℕ) (given told : RefusalLine) → given ≡ own_line cause → told ≡ told_to method given → IsOwnLine told
headed_own cause method given told is to =
    (cause, subst (λ (l : RefusalLine). record l { bare = false } ≡ own_line cause) (sym to) (subst (λ (l : RefusalLine). record l { bare = false } ≡ own_line cause) (sym is) (own_whole cause)))

-- the line of a request that names something foreign
pub foreign_own : (what : Foreign) (to_head : Bool) (told : RefusalLine) → told ≡ line_of_foreign what to_head → IsOwnLine told
foreign_own what to_head told is =
    (IsForeign what, subst (λ (l : RefusalLine). record l { bare = false } ≡ line_of_foreign what false) (sym is) (foreign_whole what to_head))

-- the line of a request whose patterns take too much
pub patterns_own : (told : RefusalLine) → (told ≡ line_of BadFilter) ⊎ (told ≡ refused_line BadPattern) → IsOwnLine told
patterns_own told (inl is) = told_own FilterTooLarge told is
patterns_own told (inr is) = told_own PatternTooLarge told is

-- such a line is what a refusal is told by
pub says_line : (line : RefusalLine) (reply : ResponseBytes) → IsOwnLine line → Says (λ bytes. bytes ≡ line_bytes line) reply → IsLine reply
says_line line (Own bytes) own says = (line, own, says)
says_line line (Fixed bytes) own says = (memory_line, (OutOfMemory, refl), says)

tells_line : (line : RefusalLine) (reply : ResponseBytes) → Says (λ bytes. bytes ≡ line_bytes line) reply → TellsLine line reply
tells_line line (Own bytes) says = inl says
tells_line line (Fixed bytes) says = inr says

pub line_made : (refusal : Refusal) (begun : PendingAnswer) (reply : ResponseBytes) → ((stand : InstanceState) → WhenMade (λ answered. IsRefusalAnswer refusal stand answered stand) begun)
    → IsOwnLine (line_seen refusal) → IsMadeOf begun.making reply → IsLine reply
line_made refusal begun reply refused own made = says_line (line_seen refusal) reply own (refused no_instance reply made).says

-- a refusal is finished with its line
pub line_told : (refusal : Refusal) (begun : PendingAnswer) (reply : ResponseBytes) → ((stand : InstanceState) → WhenMade (λ answered. IsRefusalAnswer refusal stand answered stand) begun)
    → IsMadeOf begun.making reply → TellsLine (line_seen refusal) reply
line_told refusal begun reply refused made = tells_line (line_seen refusal) reply (refused no_instance reply made).says

-- what it is finished with goes out
pub by_reply : (making : ReplyBuilder) (reply : ResponseBytes) (old new : Saying) → new ≡ said_next reply old → IsMadeOf making reply → KeepsBy making old new
by_reply making reply old new is made = by_on making old (said_next reply old) new
    (record { owed = λ owed was makes. next_owed owed reply old was (makes reply made); gone = next_gone reply old }) (keeps_same _ new is)

-- one that goes on is finished with what it would be finished with
pub by_more : (making more : ReplyBuilder) (old new : Saying) → Makes (IsMadeOf making) more → KeepsBy more old new → KeepsBy making old new
by_more making more old new same by =
    record { owed = λ owed was makes. by.owed owed was (λ reply made. makes reply (same reply made)); gone = by.gone }

-- what is said to go out stays as it was, or tells the line
pub told_keeps : (refusal : Refusal) (begun : PendingAnswer) (reply : ResponseBytes) (old new : Saying) →
    ((stand : InstanceState) → WhenMade (λ answered. IsRefusalAnswer refusal stand answered stand) begun) → IsMadeOf begun.making reply → new ≡ said_next reply old →
    KeepsIf (λ owed. WhenTold (IsReplyTo owed) (line_seen refusal)) old new
told_keeps refusal begun reply old new refused made is owed was told =
    subst (IsOwed owed) (sym is) (next_owed owed reply old was (told reply (refused no_instance reply made).says))

-- of what is about the member itself nothing is said
pub other_owed : (saying : Saying) → IsOwed Other saying
other_owed Silent = tt
other_owed (Making making) = λ reply made. tt
other_owed (Elsewhere call) = tt
other_owed (Held reply) = tt
other_owed (Out reply written) = tt

-- an answer that has come this far
coming_owed : (call : CallProgress) (new : Saying) → ((request : Request) → IsProgressOf request call → IsOwed (Answer request) new) →
    (owed : Owed) → IsComing owed call → IsOwed owed new
coming_owed call new answered Line coming = absurd coming
coming_owed call new answered (Reply begun) coming = absurd coming
coming_owed call new answered (Answer request) coming = answered request coming
coming_owed call new answered (Given request start end) coming = absurd coming
coming_owed call new answered Other coming = other_owed new

pub elsewhere_keeps : (call : CallProgress) (new : Saying) → ((request : Request) → IsProgressOf request call → IsOwed (Answer request) new) →
    KeepsGone (Elsewhere call) new → Keeps (Elsewhere call) new
elsewhere_keeps call new answered gone = record { owed = coming_owed call new answered; gone = gone }

elsewhere_loud : (call : CallProgress) → Elsewhere call ≡ Silent → ⊥
elsewhere_loud call e = cc

making_loud : (making : ReplyBuilder) → Making making ≡ Silent → ⊥
making_loud making e = cc

none_waits : (old new : Talk) → old.waiting ≡ None → WaitsNoMore (record old { saying = Silent }) new → new.waiting ≡ None
none_waits old new none (inl same) = same ∙ none
none_waits old new none (inr is) = is

-- a list goes on being made
pub making_keeps : (making : ReplyBuilder) (new : Saying) → KeepsBy making Silent new → Keeps (Making making) new
making_keeps making new by = record { owed = λ owed was. by.owed owed tt was; gone = by.gone }

-- ---- a connection that lasts

-- something is replied, so that it isn't silent
pub lasts_by : (old new : Talk) → Stays old new → ¬ (old.saying ≡ Silent) → Keeps old.saying new.saying → Lasts old new
lasts_by old new stays loud keeps = inl (record { stays = stays; silent = λ none. absurd (loud none); saying = keeps })

-- what is closed from silence is closed, where nothing went out
pub silent_closes : (old new : Talk) → gone_of old.saying ≡ [] → IsClosed (record old { waiting = None; saying = Silent }) new → IsClosed old new
silent_closes old new none closed = record {
  auth_phase = closed.auth_phase;
  session = closed.session;
  waiting = closed.waiting;
  saying = record { owed = λ owed was. closed.saying.owed owed tt; gone = closed.saying.gone ∙ sym none };
}

-- what isn't about silences goes on
pub elsewhere_lasts : (call : CallProgress) (old new : Talk) → old.saying ≡ Elsewhere call → old.waiting ≡ None → Rests (record old { saying = Silent }) new →
    KeepsGone Silent new.saying → ((request : Request) → IsProgressOf request call → IsOwed (Answer request) new.saying) → Lasts old new
elsewhere_lasts call old new here none (inl stays) gone answered = lasts_by old new
    (record { auth_phase = stays.auth_phase; session = stays.session; waiting = stays.waiting })
    (λ e. absurd (elsewhere_loud call (sym here ∙ e)))
    (subst (λ (s : Saying). Keeps s new.saying) (sym here) (elsewhere_keeps call new.saying answered gone))
elsewhere_lasts call old new here none (inr closes) gone answered = inr (record {
  auth_phase = closes.auth_phase;
  session = closes.session;
  waiting = none_waits old new none closes.waiting;
  saying = subst (λ (s : Saying). Keeps s new.saying) (sym here) (elsewhere_keeps call new.saying answered gone);
})

-- a list goes on being made
pub making_lasts : (making : ReplyBuilder) (old new : Talk) → old.saying ≡ Making making → Stays (record old { saying = Silent }) new → KeepsBy making Silent new.saying → Lasts old new
making_lasts making old new here stays by = lasts_by old new
    (record { auth_phase = stays.auth_phase; session = stays.session; waiting = stays.waiting })
    (λ e. absurd (making_loud making (sym here ∙ e)))
    (subst (λ (s : Saying). Keeps s new.saying) (sym here) (making_keeps making new.saying by))

-- the line that a change isn't kept goes out in place of the reply that waited
pub unkept : (kept : Bool) (held : UncommittedReply) (work : ConnectionWork) (told : RefusalLine) (before saying : Saying) → HeldBackAs held ≡ work → (kept || not held.is_change) ≡ false → told ≡ own_line NotKept
    → before ≡ Silent → ((reply : ResponseBytes) × TellsLine told reply × (saying ≡ said_next reply before)) → IsReleased kept work saying
unkept kept held work told before saying is unheld line silent (reply, tells, says) =
    subst (λ (w : ConnectionWork). IsReleased kept w saying) is
    (rw unheld (reply, subst (λ (l : RefusalLine). TellsLine l reply) line tells, says ∙ ap (λ (s : Saying). said_next reply s) silent))
