-- The results of what a connection said, and of steps that are no turns of one.
use Rattle.std.specs.Prelude.{◌≡◌, ◌⊎◌, ℕ, List, [], ◌∷◌, Option, None, Some, ⊤}
use Rattle.am_api_silences.specs.declared.reply_builder.ReplyBuilder.{ReplyBuilder}
use Rattle.am_http.specs.Sessions.{Spoken, name_of}
use Rattle.am_instance.specs.declared.event.Event.{Event}
use Rattle.am_instance.specs.InstanceStates.{InstanceState}
use Rattle.am_instance.specs.Laws.{Happened}
use Rattle.am_instance.specs.OneStep.{IsStep}
use Rattle.am_member.specs.declared.session_answer.SessionAnswer.{SessionAnswer}
use Rattle.am_member.specs.Exchanging.{IsSessionAnswer, left_at}
use Rattle.am_member.specs.Lives.{IsOwnEvent, IsPagingEvent}
use Rattle.am_member.specs.Sparing.{deferred}
use Rattle.am_server.specs.Talks.{Closes, IsElsewhere, IsGiven, IsRequest, Keeps, KeepsBy, KeepsGone, Owed, Owes, Saying, Talk, WaitsNoMore}
use Rattle.am_server.specs.Talks.Owed.{Answer}
use Rattle.am_server.specs.Talks.Saying.{Silent}

-- ---- steps that are no turns of a connection

-- The steps are of such events, one after another.
abbrev pub AreStepsOf : (Event → Type 0) → InstanceState → List Happened → InstanceState → Type 0
AreStepsOf IsSuch old [] new = new ≡ old
AreStepsOf IsSuch old (step ∷ steps) new =
    IsSuch step.event × IsStep old step.event step.now step.answer step.left × AreStepsOf IsSuch step.left steps new

-- No steps but those of such events were made.
pub record MakesOnly (IsSuch : Event → Type 0) (old new : InstanceState) : Type 0 where
  pub steps : List Happened
  pub made : AreStepsOf IsSuch old steps new

-- No steps were made but those that a member makes by itself.
abbrev pub ByItself : InstanceState → InstanceState → Type 0
ByItself = MakesOnly IsOwnEvent

-- No steps were made but those for a program that sends pages.
abbrev pub ForPages : InstanceState → InstanceState → Type 0
ForPages = MakesOnly IsPagingEvent

-- ---- the results of what was said

-- The reply that a step has begun is what is replied; if there is none, what is replied stays.
abbrev pub SaysBy : Option ReplyBuilder → Saying → Saying → Type 0
SaysBy None old new = new ≡ old
SaysBy (Some begun) old new = KeepsBy begun old new

-- The steps of what was said were made, as the contract of `apply_session_output` says, except for what its frames ask for; and
-- the reply is the one that they have begun.
pub record IsTaken (said : Spoken) (old : InstanceState) (talk : Talk) (new : InstanceState) (talk' : Talk) : Type 0 where
  pub bits : ℕ
  pub now : ℕ
  pub answer : SessionAnswer
  pub exchanged : IsSessionAnswer (name_of talk.session) bits now (deferred said) old new answer
  pub auth_phase : talk'.auth_phase ≡ talk.auth_phase
  pub session : talk'.session ≡ left_at answer.fault talk.session
  pub waiting : WaitsNoMore talk talk'
  pub saying : SaysBy answer.reply talk.saying talk'.saying

-- A request waits, and nothing was done.
pub record IsKept (said : Spoken) (old : InstanceState) (talk : Talk) (new : InstanceState) (talk' : Talk) : Type 0 where
  pub request : IsRequest said
  pub same : new ≡ old
  pub waits : talk' ≡ record talk { waiting = Some said; saying = Silent }

-- Nothing was done, and the reply is the line of a refusal.
pub record IsRefused (old : InstanceState) (saying : Saying) (new : InstanceState) (saying' : Saying) : Type 0 where
  pub same : new ≡ old
  pub line : Keeps saying saying'

-- The reply that is owed is given between these states, if it is the answer to a call.
abbrev pub IsGivenFor : Owed → InstanceState → InstanceState → Saying → Type 0
IsGivenFor (Answer request) old new saying = IsGiven request old new saying
IsGivenFor owed old new saying = ⊤

-- A request isn't about silences: nothing was done but steps for a program that sends pages, and nothing more went out. What is
-- replied is what the request is owed, between these states.
pub record IsElsewhereDone (said : Spoken) (old : InstanceState) (saying : Saying) (new : InstanceState) (saying' : Saying) : Type 0 where
  pub elsewhere : IsElsewhere said
  pub steps : ForPages old new
  pub gone : KeepsGone saying saying'
  pub owed : Owed
  pub owes : Owes said owed
  pub given : saying ≡ Silent → IsGivenFor owed old new saying'

-- No more is heard: what was said is refused, or isn't about silences.
pub record IsLeft (said : Spoken) (old : InstanceState) (talk : Talk) (new : InstanceState) (talk' : Talk) : Type 0 where
  pub closes : Closes talk talk'
  pub done : IsRefused old talk.saying new talk'.saying ⊎ IsElsewhereDone said old talk.saying new talk'.saying

-- A whole input is taken, kept, or left.
abbrev pub IsAnswered : Spoken → InstanceState → Talk → InstanceState → Talk → Type 0
IsAnswered said old talk new talk' = IsTaken said old talk new talk' ⊎ (IsKept said old talk new talk' ⊎ IsLeft said old talk new talk')
