-- The frames that a call passes on, from those that the calls inside pass on.
use Rattle.std.proofs.Common.{◌≡◌, ◌∙◌, ℕ, List, Option, ap, inl, inr, subst, sym}
use Rattle.am_api_decisions.proofs.Same.{same_is, same_on}
use Rattle.am_api_decisions.specs.Asking.{HoldsSame}
use Rattle.am_api_decisions.specs.Noticing.{IsNoticed}
use Rattle.am_api_decisions.specs.declared.notice.Notice.{Notice}
use Rattle.am_api_silences.specs.Answers.{WhenMade}
use Rattle.am_api_silences.specs.declared.answering.PendingAnswer.{PendingAnswer}
use Rattle.am_backend.specs.Stores.{Store}
use Rattle.am_http.specs.Sessions.{Spoken}
use Rattle.am_instance.specs.InstanceStates.{InstanceState}
use Rattle.am_instance.specs.Sendings.{Sent}
use Rattle.am_member.specs.Exchanging.{IsSessionAnswer}
use Rattle.am_member.specs.declared.session_answer.SessionAnswer.{SessionAnswer}
use Rattle.am_daemon.specs.Offers.{PutBy}
use Rattle.am_daemon.specs.Sending.{IsPassedOn, IsQuiet, Outlets, PassesOn}

abbrev all : Store → Sent → List PutBy → Outlets
all store queue put_by = record { store = store; queue = queue; put_by = put_by }

-- the outlets are as they were, and so is what is put by
pub outlets_are : (store store' : Store) (queue queue' : Sent) (put_by : List PutBy) → store' ≡ store → queue' ≡ queue → all store' queue' put_by ≡ all store queue put_by
outlets_are store store' queue queue' put_by stored queued = ap (λ (s : Store). all s queue' put_by) stored ∙ ap (λ (q : Sent). all store q put_by) queued

-- nothing but the moment changed
pub quiet_on : (old new : InstanceState) (was is : Outlets) → IsQuiet old was new is → PassesOn old was new is
quiet_on old new was is quiet = record { by = inl quiet }

-- nothing was done, and nothing was passed on
pub still_on : (old new : InstanceState) (was is : Outlets) → new ≡ old → is ≡ was → PassesOn old was new is
still_on old new was is same stays = quiet_on old new was is (record { same = same_is old new same; stays = stays })

-- quiet, and quiet again
pub quiet_then : (old mid new : InstanceState) (was between is : Outlets) → HoldsSame old mid → between ≡ was → IsQuiet mid between new is → IsQuiet old was new is
quiet_then old mid new was between is same stays quiet = record { same = same_on old mid new same quiet.same; stays = quiet.stays ∙ stays }

-- steps of what a connection said, behind what passes nothing on
pub said_on : (name : Option (List ℕ)) (said : Spoken) (old new : InstanceState) (was between is : Outlets) (answer : SessionAnswer) →
    ((bits : ℕ) × (now : ℕ) × IsSessionAnswer name bits now said old new answer) → between ≡ was → IsPassedOn answer.effects.outbox between is → PassesOn old was new is
said_on name said old new was between is answer steps stays passed = record {
  by = inr (inl (record {
    name = name;
    bits = steps.0;
    now = steps.1;
    said = said;
    answer = answer;
    exchanged = steps.2;
    passed = subst (λ (o : Outlets). IsPassedOn answer.effects.outbox o is) stays passed;
  }));
}

-- the step of a notice
pub notice_on : (now : ℕ) (notice : Notice) (old new : InstanceState) (was is : Outlets) (answer : PendingAnswer) →
    WhenMade (λ answered. IsNoticed now notice old answered new) answer → IsPassedOn answer.outbox was is → PassesOn old was new is
notice_on now notice old new was is answer noticed passed = record { by = inr (inr (record { now = now; notice = notice; answer = answer; noticed = noticed; passed = passed })) }

-- what is passed on, between what is the same
pub passed_between : (old old' new new' : InstanceState) (was was' is is' : Outlets) → old' ≡ old → new' ≡ new → was' ≡ was → is' ≡ is → PassesOn old' was' new is → PassesOn old was new' is'
passed_between old old' new new' was was' is is' before behind stood stands passes =
    subst (λ (i : InstanceState). PassesOn i was new' is') before (subst (λ (o : Outlets). PassesOn old' o new' is') stood
    (subst (λ (i : InstanceState). PassesOn old' was' i is') (sym behind) (subst (λ (o : Outlets). PassesOn old' was' new o) (sym stands) passes)))
