-- The work of a request, put together of its parts.
use Rattle.std.proofs.Common.{◌≡◌, ℕ, List, [], ◌∷◌, Bool, true, false, true≢false, inl, inr, map, ap, ap₂, refl, sym, subst, ◌∙◌}
use Rattle.std.specs.Prelude.{◌≢◌, Option, Some, None, Result, Ok, Err, IfOk, IfErr, OnOk, OnErr, is_some, if◌then◌else◌}
use Rattle.std.specs.List.{list_all}
use Rattle.std.proofs.lemmas.List.Folds.{list_any-from_Any}
use Rattle.am_silence.specs.Mesh.{Mesh}
use Rattle.am_silence.specs.Ids.{id_text}
use Rattle.am_silence.specs.Plans.{post_of, planned, versions, ended_of}
use Rattle.am_silence.specs.Refusals.{◌before◌, refusal, early_refusal, posted_refusal, unread_refusal, end_refusal}
use Rattle.am_silence.specs.declared.plan.Posted.{Posted}
use Rattle.am_silence.specs.declared.plan.Plan.{Plan}
use Rattle.am_silence.specs.declared.plan.Verdict.{Verdict}
use Rattle.am_silence.specs.declared.plan.Verdict.TheVariants as verdicts
use Rattle.am_silence.specs.declared.matcher.Matcher.{Matcher}
use Rattle.am_silence.specs.Kinds.{is_regexp}
use Rattle.am_silence.specs.declared.error.SilenceError.{SilenceError}
use Rattle.am_silence.specs.declared.error.SilenceError.TheVariants as silence_errors
use Rattle.am_silence.proofs.Refusing.{unread_tells_no_memory}
use Rattle.am_matcher.specs.declared.dialect.Dialect.{Dialect}
use Rattle.am_matcher.specs.Matching.{has_regexp, matches_value}
use Rattle.am_matcher.specs.Dialects.{AreMeant, IsVerdictIn}
use Rattle.am_matcher.proofs.Meant.{meant_once, plain_are_meant}
use Rattle.am_gossip.specs.declared.refusals.StepError.{StepError}
use Rattle.am_gossip.specs.declared.refusals.StepError.TheVariants.{Memory}
use Rattle.am_instance.specs.declared.event.Event.TheVariants as events
use Rattle.am_instance.specs.declared.event.Request.TheVariants as requests
use Rattle.am_instance.specs.declared.reply.Reply.{Reply}
use Rattle.am_instance.specs.declared.reply.Reply.TheVariants as replies
use Rattle.am_instance.specs.declared.reply.Outcome.{Outcome}
use Rattle.am_instance.specs.Deliveries.Delivery.{OfSilence}
use Rattle.am_instance.specs.InstanceStates.{InstanceState, silence_at}
use Rattle.am_instance.specs.Replies.{RefusedOr, IsDone, IsEnded, posted_id, posted_over, silence_in_view}
use Rattle.am_instance.specs.Steps.{IsWork, IsPlanned, IsPutHere, IsTurnedAway, plain_verdict, post_refusal, refused_anyway}
use Rattle.am_instance.proofs.Works.{made_work, quiet_work, stopped_work, made_silences}

-- a plan that was carried out, as that of the versions and the reply that it names
pub carried : (result : Result Outcome StepError) (old new : InstanceState) (vs ws : List Mesh) (one other : Reply) (now : ℕ) → vs ≡ ws → one ≡ other →
    IfOk result (λ outcome. IsPutHere old vs one now outcome new) → IfOk result (λ outcome. IsPutHere old ws other now outcome new)
carried result old new vs ws one other now same reply done =
    subst (λ r. IfOk result (λ outcome. IsPutHere old ws r now outcome new)) reply (subst (λ xs. IfOk result (λ outcome. IsPutHere old xs one now outcome new)) same done)

-- whether a post is refused doesn't depend on how what is held is told
pub refusal_is : (stand : InstanceState) (posted : Posted) (bits now : ℕ) (verdict : Verdict) (held : Option Mesh) (id_held : Bool) →
    held ≡ posted_over now stand.silences posted.id → id_held ≡ is_some (silence_at stand.silences (id_text bits)) →
    post_refusal stand posted bits now verdict ≡ refusal held verdict id_held (post_of posted now bits stand.config.retention)
refusal_is stand posted bits now verdict held id_held is known =
    ap (λ (h : Option Mesh). refusal h verdict (is_some (silence_at stand.silences (id_text bits))) (post_of posted now bits stand.config.retention)) (sym is)
    ∙ ap (λ (b : Bool). refusal held verdict b (post_of posted now bits stand.config.retention)) (sym known)

-- what a call answered, with the verdict on what is posted
pub planned_by : (stand : InstanceState) (posted : Posted) (bits now : ℕ) (verdict : Verdict) (held : Option Mesh) (id_held : Bool) (result : Result Plan SilenceError) →
    IsVerdictIn stand.config.dialect posted.matchers verdict → held ≡ posted_over now stand.silences posted.id → id_held ≡ is_some (silence_at stand.silences (id_text bits)) →
    IfOk result (λ plan. plan ≡ planned held (post_of posted now bits stand.config.retention)) →
    OnOk result (refusal held verdict id_held (post_of posted now bits stand.config.retention) ≡ None) →
    IfErr result (λ e. e ≢ silence_errors.Memory → refusal held verdict id_held (post_of posted now bits stand.config.retention) ≡ Some e) →
    IsPlanned stand posted bits now result
planned_by stand posted bits now verdict held id_held (Ok plan) judged is known plans accepted refused = (
  verdict,
  (λ _. judged),
  refusal_is stand posted bits now verdict held id_held is known ∙ accepted,
  plans ∙ ap (λ (h : Option Mesh). planned h (post_of posted now bits stand.config.retention)) is,
)
planned_by stand posted bits now verdict held id_held (Err e) judged is known plans accepted refused = λ other. (
  verdict,
  (λ _. judged),
  refusal_is stand posted bits now verdict held id_held is known ∙ refused other,
)

-- what finds no memory isn't refused for another cause
pub refused_for_memory : (stand : InstanceState) (posted : Posted) (bits now : ℕ) (verdict : Verdict) (held : Option Mesh) (id_held : Bool) (result : Result Plan SilenceError) →
    held ≡ posted_over now stand.silences posted.id → id_held ≡ is_some (silence_at stand.silences (id_text bits)) →
    IfErr result (λ e. e ≡ silence_errors.Memory → refusal held verdict id_held (post_of posted now bits stand.config.retention) ≡ None) →
    IfErr result (λ e. e ≡ silence_errors.Memory → post_refusal stand posted bits now verdict ≡ None)
refused_for_memory stand posted bits now verdict held id_held (Ok plan) is known none = none
refused_for_memory stand posted bits now verdict held id_held (Err e) is known none = λ memory. refusal_is stand posted bits now verdict held id_held is known ∙ none memory

-- what comes first of refusals is the refusal, whatever comes behind it
comes_first : (first patterns times older fresh size : Option SilenceError) (error : SilenceError) → first ≡ Some error →
    (first before patterns before times before older before fresh before size) ≡ Some error
comes_first first patterns times older fresh size error is = rw is refl

-- a post that is refused whatever its patterns are
pub unread_planned : (stand : InstanceState) (posted : Posted) (bits now : ℕ) (error : SilenceError) → unread_refusal (posted_over now stand.silences posted.id) posted ≡ Some error → IsPlanned stand posted bits now (Err error)
unfolding refusal early_refusal posted_refusal
unread_planned stand posted bits now error is = λ other.
    (verdicts.Fine, (λ read. absurd (let lost : None ≡ Some error = sym read ∙ is in cc)), comes_first _ _ _ _ _ _ error is)

-- matchers without a regular expression match the empty text as they are meant
empty_alike : (dialect : Dialect) (matchers meant : List Matcher) (found : Bool) → has_regexp matchers ≡ false → AreMeant dialect matchers meant →
    list_all (λ m. matches_value m []) meant ≡ found → found ≡ list_all (λ m. matches_value m []) matchers
empty_alike dialect matchers meant found none all is =
    sym is ∙ ap (λ (ms : List Matcher). list_all (λ m. matches_value m []) ms)
    (meant_once dialect matchers meant matchers all (plain_are_meant dialect matchers none))

-- the verdict on matchers without a regular expression is the plain one
plain_is : (dialect : Dialect) (matchers : List Matcher) (verdict : Verdict) → has_regexp matchers ≡ false → IsVerdictIn dialect matchers verdict → verdict ≡ plain_verdict dialect matchers
plain_is dialect matchers verdicts.Bad none (inl (k, m, within, is, broken)) = absurd (true≢false (sym (list_any-from_Any (λ m. is_regexp m.kind) matchers (k, m, within, is, broken.0)) ∙ none))
plain_is dialect matchers verdicts.Bad none (inr names) = ap (λ (b : Bool). if b then (if list_all (λ m. matches_value m []) matchers then verdicts.AllEmpty else verdicts.Fine) else verdicts.Bad) (sym names)
plain_is dialect matchers verdicts.AllEmpty none (names, meant, all, judged) =
    ap₂ (λ (b c : Bool). if b then (if c then verdicts.AllEmpty else verdicts.Fine) else verdicts.Bad) (sym names)
    (empty_alike dialect matchers meant true none all judged.1)
plain_is dialect matchers verdicts.Fine none (names, meant, all, judged) =
    ap₂ (λ (b c : Bool). if b then (if c then verdicts.AllEmpty else verdicts.Fine) else verdicts.Bad) (sym names)
    (empty_alike dialect matchers meant false none all judged.1)

either_way : (test : Bool) (one other : Option SilenceError) → (test ≡ true → one ≡ None) → (test ≡ false → other ≡ None) → (if test then one else other) ≡ None
either_way true one other first second = first refl
either_way false one other first second = second refl

-- a post whose patterns are compiled isn't refused anyway, where it isn't refused whatever they are
pub compiled_anyway : (stand : InstanceState) (posted : Posted) (bits now : ℕ) → has_regexp posted.matchers ≡ true → unread_refusal (posted_over now stand.silences posted.id) posted ≡ None →
    refused_anyway stand (events.Request (requests.Post posted bits)) now ≡ None
compiled_anyway stand posted bits now regexp read = either_way (has_regexp posted.matchers) _ _ (λ _. read) (λ none. absurd (true≢false (sym regexp ∙ none)))

-- a post that isn't refused by a verdict on its matchers isn't refused anyway
pub judged_anyway : (stand : InstanceState) (posted : Posted) (bits now : ℕ) (verdict : Verdict) → IsVerdictIn stand.config.dialect posted.matchers verdict →
    unread_refusal (posted_over now stand.silences posted.id) posted ≡ None → post_refusal stand posted bits now verdict ≡ None →
    refused_anyway stand (events.Request (requests.Post posted bits)) now ≡ None
judged_anyway stand posted bits now verdict judged read accepted = either_way (has_regexp posted.matchers) _ _ (λ _. read)
    (λ none. ap (post_refusal stand posted bits now) (sym (plain_is stand.config.dialect posted.matchers verdict none judged)) ∙ accepted)

pub unread_is_told : (stand : InstanceState) (posted : Posted) (bits now : ℕ) (error : SilenceError) → unread_refusal (posted_over now stand.silences posted.id) posted ≡ Some error →
    error ≡ silence_errors.Memory → refused_anyway stand (events.Request (requests.Post posted bits)) now ≡ None
unread_is_told stand posted bits now error is memory = absurd (unread_tells_no_memory _ posted error is memory)

-- a post that was planned and carried out
pub post_done : (old new : InstanceState) (posted : Posted) (bits now : ℕ) (plan : Plan) (result : Result Outcome StepError) → IsPlanned old posted bits now (Ok plan) →
    IfOk result (λ outcome. IsPutHere old (versions plan) (replies.Posted (posted_id plan)) now outcome new) → IfErr result (λ e. e ≡ Memory 0) → OnErr result (new ≡ old) →
    unread_refusal (posted_over now old.silences posted.id) posted ≡ None → IsWork old (events.Request (requests.Post posted bits)) now result new
post_done old new posted bits now plan (Ok outcome) plans put memory unchanged read =
    made_work old new (events.Request (requests.Post posted bits)) now outcome (map OfSilence (versions plan)) refl refl refl refl refl
    (made_silences outcome.made (versions plan) put.made) put.delivered put.sent (record {
      verdict = plans.0;
      judged = plans.1;
      answer = subst (λ r. RefusedOr r (IsDone (planned (posted_over now old.silences posted.id) (post_of posted now bits old.config.retention))) outcome.reply outcome.made) (sym plans.2)
          (subst (λ p. IsDone p outcome.reply outcome.made) plans.3 (record { answer = put.answer; copies = put.made }));
    })
post_done old new posted bits now plan (Err e) plans put memory unchanged read = stopped_work old new (events.Request (requests.Post posted bits)) now e memory unchanged
    (judged_anyway old posted bits now plans.0 (plans.1 read) read plans.2)

-- a post that was refused
pub post_refused : (old : InstanceState) (posted : Posted) (bits now : ℕ) (error : SilenceError) (result : Result Outcome StepError) → IsPlanned old posted bits now (Err error) →
    IfOk result (IsTurnedAway error) → IfErr result (λ e. (e ≡ Memory 0) × (error ≡ silence_errors.Memory)) →
    (error ≡ silence_errors.Memory → refused_anyway old (events.Request (requests.Post posted bits)) now ≡ None) → IsWork old (events.Request (requests.Post posted bits)) now result old
post_refused old posted bits now error (Ok outcome) plans away memory read =
    let why = plans away.other in
    quiet_work old (events.Request (requests.Post posted bits)) now outcome refl refl refl refl away.unsent away.nothing (record {
      verdict = why.0;
      judged = why.1;
      answer = subst (λ r. RefusedOr r (IsDone (planned (posted_over now old.silences posted.id) (post_of posted now bits old.config.retention))) outcome.reply outcome.made) (sym why.2)
          (record { answer = away.answer; nothing = away.nothing });
    })
post_refused old posted bits now error (Err e) plans away memory read = stopped_work old old (events.Request (requests.Post posted bits)) now e memory.0 refl (read memory.1)

-- a silence that was ended
pub delete_done : (old new : InstanceState) (id : List ℕ) (now : ℕ) (held : Option Mesh) (v : Mesh) (result : Result Outcome StepError) → held ≡ silence_in_view now old.silences id →
    ended_of held now old.config.retention ≡ Some v → end_refusal held now old.config.retention ≡ None →
    IfOk result (λ outcome. IsPutHere old (v ∷ []) replies.Deleted now outcome new) → IfErr result (λ e. e ≡ Memory 0) → OnErr result (new ≡ old) →
    IsWork old (events.Request (requests.Delete id)) now result new
delete_done old new id now held v (Ok outcome) is ended accepted put memory unchanged =
    made_work old new (events.Request (requests.Delete id)) now outcome (map OfSilence (v ∷ [])) refl refl refl refl refl
    (made_silences outcome.made (v ∷ []) put.made) put.delivered put.sent
    (subst (λ h. RefusedOr (end_refusal h now old.config.retention) (IsEnded (ended_of h now old.config.retention)) outcome.reply outcome.made) is
    (subst (λ r. RefusedOr r (IsEnded (ended_of held now old.config.retention)) outcome.reply outcome.made) (sym accepted)
    (subst (λ o. IsEnded o outcome.reply outcome.made) (sym ended) (record { answer = put.answer; copies = put.made }))))
delete_done old new id now held v (Err e) is ended accepted put memory unchanged = stopped_work old new (events.Request (requests.Delete id)) now e memory unchanged
    (ap (λ h. end_refusal h now old.config.retention) (sym is) ∙ accepted)

pub delete_refused : (old : InstanceState) (id : List ℕ) (now : ℕ) (held : Option Mesh) (error : SilenceError) (result : Result Outcome StepError) → held ≡ silence_in_view now old.silences id →
    (error ≢ silence_errors.Memory → end_refusal held now old.config.retention ≡ Some error) → (error ≡ silence_errors.Memory → end_refusal held now old.config.retention ≡ None) →
    IfOk result (IsTurnedAway error) → IfErr result (λ e. (e ≡ Memory 0) × (error ≡ silence_errors.Memory)) → IsWork old (events.Request (requests.Delete id)) now result old
delete_refused old id now held error (Ok outcome) is refused none away memory =
    quiet_work old (events.Request (requests.Delete id)) now outcome refl refl refl refl away.unsent away.nothing
    (subst (λ h. RefusedOr (end_refusal h now old.config.retention) (IsEnded (ended_of h now old.config.retention)) outcome.reply outcome.made) is
    (subst (λ r. RefusedOr r (IsEnded (ended_of held now old.config.retention)) outcome.reply outcome.made) (sym (refused away.other)) (record { answer = away.answer; nothing = away.nothing })))
delete_refused old id now held error (Err e) is refused none away memory = stopped_work old old (events.Request (requests.Delete id)) now e memory.0 refl
    (ap (λ h. end_refusal h now old.config.retention) (sym is) ∙ none memory.1)
