-- The answers to calls, one stretch after the other.
use Rattle.std.proofs.Common.{◌≡◌, ◌∙◌, ℕ, List, [], ◌∷◌, ◌++◌, map, Some, Ok, inl, inr, refl, sym, subst, ap, append_assoc}
use Rattle.std.proofs.lemmas.List.{map-append}
use Rattle.std.specs.List.{AllByRecursion}
use Rattle.am_api_decisions.proofs.AskedMore.{counted_more, counted_none}
use Rattle.am_api_decisions.specs.ParsedCalls.{IsAsked}
use Rattle.am_api_decisions.specs.Asking.{AreAsked, AskedAlert, Counted, HoldsSame, IsStopped, counted_with, nothing_counted}
use Rattle.am_api_decisions.specs.Deciding.{GoesOn, Underway, underway_of}
use Rattle.am_api_decisions.specs.Entries.{Telling, log_bytes}
use Rattle.am_api_decisions.specs.Noticing.{IsNoticed}
use Rattle.am_api_decisions.specs.Settling.{IsBrokenOff, IsDecided}
use Rattle.am_api_decisions.specs.declared.parsed_call.ParsedCall.TheVariants as asks
use Rattle.am_api_decisions.specs.declared.parsed_call.Question.{Question}
use Rattle.am_api_decisions.specs.declared.timing.Timing.{Timing}
use Rattle.am_api_silences.specs.Answers.{WhenMade}
use Rattle.am_api_silences.specs.ReplyBuilder.{Makes}
use Rattle.am_api_silences.specs.Replies.{Says, line_bytes}
use Rattle.am_api_silences.specs.Table.{memory_line}
use Rattle.am_api_silences.specs.declared.answering.PendingAnswer.{PendingAnswer}
use Rattle.am_api_silences.specs.declared.reply_builder.ReplyBuilder.{ReplyBuilder}
use Rattle.am_api_silences.specs.declared.replies.ResponseBytes.{ResponseBytes}
use Rattle.am_api_silences.specs.declared.replies.ResponseBytes.TheVariants.{Own, Fixed}
use Rattle.am_api_decisions.specs.declared.message.Alert.{Alert}
use Rattle.am_api_decisions.specs.declared.notice.Notice.{Notice}
use Rattle.am_http.specs.Lines.{RefusalLine}
use Rattle.am_http.specs.Sessions.{Spoken}
use Rattle.am_http.specs.declared.request.Read.{Read}
use Rattle.am_http.specs.declared.request.Read.TheVariants.{More, Whole, Refused}
use Rattle.am_http.specs.declared.request.Request.{Request}
use Rattle.am_instance.specs.InstanceStates.{InstanceState}
use Rattle.am_server.proofs.Sayings.{other_owed, says_line}
use Rattle.am_server.specs.Answered.{ForPages, IsAnswered, IsGivenFor}
use Rattle.am_server.specs.Calls.{AnswersQuestion, CallCause, IsProgressOf, IsUnderway, WasAsked, WhenTold, call_line}
use Rattle.am_server.specs.Talks.{AsksElsewhere, Closes, IsCallReply, IsElsewhere, IsGiven, IsOwed, IsOwnLine, IsReplyTo, KeepsBy, KeepsGone, KeepsIf, Owed, Owes, Saying, Talk, put_next, said_next}
use Rattle.am_server.specs.Talks.Owed.{Line, Reply, Answer, Given, Other}
use Rattle.am_server.specs.Talks.Saying.{Silent, Making, Elsewhere, Held, Out}
use Rattle.am_server.specs.Talks.OwnCause.{OutOfMemory}
use Rattle.am_server.specs.declared.connection_state.CallProgress.{CallProgress}
use Rattle.am_server.specs.declared.connection_state.CallProgress.TheVariants as progress

-- ---- decisions

-- none of a question's alerts was asked
pub begun_underway : (question : Question) → IsUnderway question (underway_of question)
begun_underway question = record { asked = []; each = tt; group = refl; parts = refl; counted = counted_none nothing_counted }

-- alerts that were asked one after another were each asked
each_asked : (now : ℕ) (asked : List AskedAlert) (old new : InstanceState) → AreAsked now asked old new → AllByRecursion WasAsked asked
each_asked now [] old new are = tt
each_asked now (one ∷ others) old new are = ((now, old, are.0, are.1), each_asked now others are.0 new are.2)

each_more : (asked others : List AskedAlert) → AllByRecursion WasAsked asked → AllByRecursion WasAsked others → AllByRecursion WasAsked (asked ++ others)
each_more [] others each more = more
each_more (one ∷ asked) others each more = (each.0, each_more asked others each.1 more)

-- the alerts of those that were asked
abbrev alerts_of : List AskedAlert → List Alert
alerts_of asked = map (λ one. one.alert) asked

-- more alerts were asked
pub on_underway : (question : Question) (now most : ℕ) (before after : Underway) (old new : InstanceState) → IsUnderway question before → GoesOn now most before old after new →
    IsUnderway question after
on_underway question now most before after old new underway on = record {
  asked = underway.asked ++ on.asked;
  each = each_more underway.asked on.asked underway.each (each_asked now on.asked old new on.on.steps);
  group = on.group ∙ underway.group;
  parts = underway.parts ∙ (ap (λ (left : List Alert). alerts_of underway.asked ++ left) on.on.parts
      ∙ (sym (append_assoc (alerts_of underway.asked) (alerts_of on.asked) after.left)
      ∙ sym (ap (λ (alerts : List Alert). alerts ++ after.left) (map-append (λ (one : AskedAlert). one.alert) underway.asked on.asked))));
  counted = on.on.counted ∙ (ap (λ (c : Counted). counted_with c on.asked) underway.counted ∙ counted_more nothing_counted underway.asked on.asked);
}

-- asking that stops at an alert is told by its line
pub stopped_answer : (question : Question) (now : ℕ) (before : Underway) (start old : InstanceState) (line : RefusalLine) (new : InstanceState) → IsUnderway question before →
    HoldsSame start old → IsStopped now before.left old line new → WhenTold (λ reply. AnswersQuestion question start reply new) line
stopped_answer question now before start old line new underway same stopped reply says = record {
  timing = record { now = now; turn_seconds = 0 };
  deciding = before;
  underway = underway;
  mid = old;
  same = same;
  decided = inl (inr (record { line = line; stopped = stopped; says = says }));
}

-- a decision is made
pub decided_answer : (question : Question) (timing : Timing) (before : Underway) (start old : InstanceState) (reply : ResponseBytes) (new : InstanceState) → IsUnderway question before →
    HoldsSame start old → IsDecided timing before old reply new → AnswersQuestion question start reply new
decided_answer question timing before start old reply new underway same decided =
    record { timing = timing; deciding = before; underway = underway; mid = old; same = same; decided = inl decided }

-- a decision is broken off
pub broken_off_answer : (question : Question) (timing : Timing) (before : Underway) (start old : InstanceState) (reply : ResponseBytes) (new : InstanceState) → IsUnderway question before →
    HoldsSame start old → IsBrokenOff timing before old reply new → AnswersQuestion question start reply new
broken_off_answer question timing before start old reply new underway same decided =
    record { timing = timing; deciding = before; underway = underway; mid = old; same = same; decided = inr decided }

-- the decision is the reply to its request
pub question_replied : (request : Request) (question : Question) (old : InstanceState) (reply : ResponseBytes) (new : InstanceState) → IsAsked request (Ok (asks.Decide question)) →
    AnswersQuestion question old reply new → IsCallReply request old reply new
question_replied request question old reply new asked answers = inl (Ok (asks.Decide question), asked, answers)

-- what comes of a notice is the reply to its request
pub notice_replied : (request : Request) (notice : Notice) (now : ℕ) (old new : InstanceState) (begun : PendingAnswer) → IsAsked request (Ok (asks.Notified notice)) →
    WhenMade (λ answered. IsNoticed now notice old answered new) begun → Makes (λ reply. IsCallReply request old reply new) begun.making
notice_replied request notice now old new begun asked noticed reply made = inl (Ok (asks.Notified notice), asked, (now, begun.outbox, noticed reply made))

-- any list of the recent alerts is the reply to its request
pub alerts_replied : (request : Request) (making : ReplyBuilder) (old new : InstanceState) → IsAsked request (Ok asks.Alerts) →
    Makes (λ reply. IsCallReply request old reply new) making
alerts_replied request making old new asked reply made = inl (Ok asks.Alerts, asked, tt)

-- ---- lines

-- a line of the member's own
pub own_replied : (request : Request) (told : RefusalLine) (old new : InstanceState) → IsOwnLine told → WhenTold (λ reply. IsCallReply request old reply new) told
own_replied request told old new own reply says = inr (inr (says_line told reply own says))

-- the line by which a call is turned away
turned_away : (request : Request) (cause : CallCause) (old new : InstanceState) (reply : ResponseBytes) → Says (λ bytes. bytes ≡ line_bytes (call_line cause)) reply →
    IsCallReply request old reply new
turned_away request cause old new (Own bytes) says = inr (inl (cause, says))
turned_away request cause old new (Fixed bytes) says = inr (inr (memory_line, (OutOfMemory, refl), says))

pub away_replied : (request : Request) (cause : CallCause) (told : RefusalLine) (old new : InstanceState) → told ≡ call_line cause →
    WhenTold (λ reply. IsCallReply request old reply new) told
away_replied request cause told old new is reply says =
    turned_away request cause old new reply (subst (λ (line : RefusalLine). Says (λ bytes. bytes ≡ line_bytes line) reply) is says)

-- ---- the log

log_listed : (request : Request) (writing : Telling) (old : InstanceState) (reply : ResponseBytes) (new : InstanceState) → IsProgressOf request (progress.Log writing) →
    Says (λ bytes. bytes ≡ log_bytes writing.rows) reply → IsCallReply request old reply new
log_listed request writing old reply new came says =
    inl (Ok asks.Log, came.0, (came.1, came.2, subst (λ rows. Says (λ bytes. bytes ≡ log_bytes rows) reply) came.3 says))

-- ---- answers between two states

-- what is owed so is given so
pub owed_given : (request : Request) (old new : InstanceState) (saying : Saying) → IsOwed (Given request old new) saying → IsGiven request old new saying
owed_given request old new Silent owed = owed
owed_given request old new (Making making) owed = owed
owed_given request old new (Elsewhere call) owed = absurd owed
owed_given request old new (Held reply) owed = owed
owed_given request old new (Out reply written) owed = owed

-- nothing is given yet
silent_given : (request : Request) (old new : InstanceState) (saying : Saying) → saying ≡ Silent → IsOwed (Given request old new) saying
silent_given request old new saying silent = subst (IsOwed (Given request old new)) (sym silent) tt

pub same_given : (request : Request) (old new : InstanceState) (saying saying' : Saying) → saying ≡ Silent → saying' ≡ saying → IsGiven request old new saying'
same_given request old new saying saying' silent same = owed_given request old new saying' (silent_given request old new saying' (same ∙ silent))

-- a call is put off
pub put_given : (call : CallProgress) (request : Request) (old new : InstanceState) (saying saying' : Saying) → saying ≡ Silent → saying' ≡ put_next call saying →
    IsProgressOf request call → IsGiven request old new saying'
put_given call request old new saying saying' silent puts came = subst (IsGiven request old new) (sym (puts ∙ ap (put_next call) silent)) came

-- a reply is made
pub made_given : (request : Request) (making : ReplyBuilder) (old new : InstanceState) (saying saying' : Saying) → saying ≡ Silent → KeepsBy making saying saying' →
    Makes (λ reply. IsCallReply request old reply new) making → IsGiven request old new saying'
made_given request making old new saying saying' silent by makes =
    owed_given request old new saying' (by.owed (Given request old new) (silent_given request old new saying silent) makes)

-- a line is told
pub told_given : (request : Request) (told : RefusalLine) (old new : InstanceState) (saying saying' : Saying) → saying ≡ Silent →
    KeepsIf (λ owed. WhenTold (IsReplyTo owed) told) saying saying' → WhenTold (λ reply. IsCallReply request old reply new) told → IsGiven request old new saying'
told_given request told old new saying saying' silent tells are =
    owed_given request old new saying' (tells (Given request old new) (silent_given request old new saying silent) are)

-- the log is listed, when all of it is written
pub log_given : (writing : Telling) (reply : ResponseBytes) (request : Request) (old new : InstanceState) (saying saying' : Saying) → saying ≡ Silent → saying' ≡ said_next reply saying →
    Says (λ bytes. bytes ≡ log_bytes writing.rows) reply → IsProgressOf request (progress.Log writing) → IsGiven request old new saying'
log_given writing reply request old new saying saying' silent is says came =
    subst (IsGiven request old new) (sym (is ∙ ap (said_next reply) silent)) (log_listed request writing old reply new came says)

-- more of it is written
pub log_goes_on : (request : Request) (writing more : Telling) → more.rows ≡ writing.rows → IsProgressOf request (progress.Log writing) → IsProgressOf request (progress.Log more)
log_goes_on request writing more same came = (came.0, came.1, came.2, same ∙ came.3)

-- what is given is owed
pub given_owed : (request : Request) (old new : InstanceState) (saying : Saying) → IsGiven request old new saying → IsOwed (Answer request) saying
given_owed request old new Silent given = given
given_owed request old new (Making making) given = λ reply made. (old, new, given reply made)
given_owed request old new (Elsewhere call) given = given
given_owed request old new (Held reply) given = (old, new, given)
given_owed request old new (Out reply written) given = (old, new, given)

-- so is what a request is owed
pub owes_owed : (said : Spoken) (owed : Owed) (old new : InstanceState) (saying : Saying) → Owes said owed → IsGivenFor owed old new saying → IsOwed owed saying
owes_owed said Line old new saying owes given = absurd owes
owes_owed said (Reply begun) old new saying owes given = absurd owes
owes_owed said (Answer request) old new saying owes given = given_owed request old new saying given
owes_owed said (Given request start end) old new saying owes given = absurd owes
owes_owed said Other old new saying owes given = other_owed saying

-- ---- what a request that isn't about silences is owed

whole_read : (A : Type 0) (said : Spoken) (read : Read) → said.request ≡ Some read → AsksElsewhere read → ((request : Request) → said.request ≡ Some (Whole request) → A) → A
whole_read A said (Whole request) is asks then = then request is
whole_read A said More is asks then = absurd asks
whole_read A said (Refused refusal) is asks then = absurd asks

-- a call is answered, or its answer has begun
pub call_answered : (said : Spoken) (old new : InstanceState) (talk talk' : Talk) → IsElsewhere said → ForPages old new → Closes talk talk' → KeepsGone talk.saying talk'.saying →
    ((request : Request) → said.request ≡ Some (Whole request) → talk.saying ≡ Silent → IsGiven request old new talk'.saying) → IsAnswered said old talk new talk'
call_answered said old new talk talk' elsewhere steps closes gone given =
    whole_read (IsAnswered said old talk new talk') said elsewhere.0 elsewhere.1 elsewhere.2 (λ request is. inr (inr (record {
      closes = closes;
      done = inr (record { elsewhere = elsewhere; steps = steps; gone = gone; owed = Answer request; owes = is; given = given request is });
    })))

-- a request for a page about the member is answered
pub page_answered : (said : Spoken) (old new : InstanceState) (talk talk' : Talk) → IsElsewhere said → Owes said Other → ForPages old new → Closes talk talk' →
    KeepsGone talk.saying talk'.saying → IsAnswered said old talk new talk'
page_answered said old new talk talk' elsewhere owes steps closes gone = inr (inr (record {
  closes = closes;
  done = inr (record { elsewhere = elsewhere; steps = steps; gone = gone; owed = Other; owes = owes; given = λ silent. tt });
}))
