-- The words of a connection are taken, from the steps that they ask for.
use Rattle.std.proofs.Common.{◌≡◌, ◌∙◌, ℕ, false, Bor, List, Option, None, Some, Ok, inl, refl, sym, subst}
use Rattle.std.proofs.lemmas.Option.{none-some}
use Rattle.std.specs.Option.{is_some, option_copied}
use Rattle.am_server.specs.Answered.{IsAnswered, IsTaken, SaysBy}
use Rattle.am_server.specs.Talks.{Stays, Talk}
use Rattle.am_http.specs.Sessions.{Spoken, SessionPhase, name_of, nothing}
use Rattle.am_instance.specs.InstanceStates.{InstanceState}
use Rattle.am_member.specs.declared.session_answer.SessionAnswer.{SessionAnswer}
use Rattle.am_member.specs.Exchanging.{IsSessionAnswer, left_at}
use Rattle.am_member.specs.Incoming.{no_effects}
use Rattle.am_member.specs.Sparing.{deferred}

-- its steps were made
pub steps_taken : (said given : Spoken) (old new : InstanceState) (talk talk' : Talk) (mid : SessionPhase) (exchanged : SessionAnswer) → given ≡ deferred said →
    ((bits : ℕ) × (now : ℕ) × IsSessionAnswer (name_of talk.session) bits now given old new exchanged) → mid ≡ left_at exchanged.fault talk.session →
    Stays (record talk { session = mid }) talk' → SaysBy exchanged.reply talk.saying talk'.saying → IsTaken said old talk new talk'
steps_taken said given old new talk talk' mid exchanged is steps left stays says = record {
  bits = steps.0;
  now = steps.1;
  answer = exchanged;
  exchanged = subst (λ (s : Spoken). IsSessionAnswer (name_of talk.session) steps.0 steps.1 s old new exchanged) is steps.2;
  auth_phase = stays.auth_phase;
  session = stays.session ∙ left;
  waiting = stays.waiting;
  saying = says;
}

-- who hasn't greeted has no name
pub no_name : (name : Option (Bor (List ℕ))) → is_some name ≡ false → option_copied name ≡ None
no_name None none = refl
no_name (Some text) none = absurd cc

-- what comes of nothing
abbrev no_answer : SessionAnswer
no_answer = record { reply = None; effects = no_effects; fault = None }

unsaid : (old : InstanceState) → IsSessionAnswer None 0 0 (deferred nothing) old old no_answer
unsaid old = record {
  asked = λ read some. absurd (none-some read some);
  heard = λ none. record { silent = refl; steps = Ok tt; stepped = (0, refl, refl); all = refl; stop = tt };
}

-- nothing was said by who hasn't greeted
pub nothing_taken : (said : Spoken) (old : InstanceState) (talk : Talk) → said ≡ nothing → name_of talk.session ≡ None → IsTaken said old talk old talk
nothing_taken said old talk is name = record {
  bits = 0;
  now = 0;
  answer = no_answer;
  exchanged = subst (λ (n : Option (List ℕ)). IsSessionAnswer n 0 0 (deferred said) old old no_answer) (sym name)
      (subst (λ (s : Spoken). IsSessionAnswer None 0 0 (deferred s) old old no_answer) (sym is) (unsaid old));
  auth_phase = refl;
  session = refl;
  waiting = inl refl;
  saying = refl;
}

-- what a connection said is answered, between what is the same
pub answered_between : (said : Spoken) (old old' new new' : InstanceState) (was is after : Talk) → is ≡ was → old' ≡ old → new' ≡ new → IsAnswered said old' is new after →
    IsAnswered said old was new' after
answered_between said old old' new new' was is after same before behind answered = subst (λ (i : InstanceState). IsAnswered said i was new' after) before
    (subst (λ (i : InstanceState). IsAnswered said old' was i after) (sym behind) (subst (λ (t : Talk). IsAnswered said old' t new after) same answered))
