-- The number of silences that a step makes.
use Rattle.std.proofs.Common.{◌≡◌, ℕ, ◌≤◌, List, [], ◌∷◌, Bool, true, false, length, sym, subst, arith}
use Rattle.std.specs.Prelude.{Option, Some, None}
use Rattle.am_silence.specs.Mesh.{Mesh}
use Rattle.am_silence.specs.declared.error.SilenceError.{SilenceError}
use Rattle.am_silence.specs.declared.plan.Plan.{Plan}
use Rattle.am_silence.specs.declared.plan.Plan.TheVariants as plans
use Rattle.am_silence.specs.Plans.{ended_of, planned, post_of, versions}
use Rattle.am_nflog.specs.Mesh.{Mesh as LogMesh}
use Rattle.am_instance.specs.declared.event.Event.{Event}
use Rattle.am_instance.specs.declared.event.Event.TheVariants as events
use Rattle.am_instance.specs.declared.event.Request.{Request}
use Rattle.am_instance.specs.declared.event.Request.TheVariants as requests
use Rattle.am_instance.specs.declared.reply.Made.{Made}
use Rattle.am_instance.specs.declared.reply.Reply.{Reply}
use Rattle.am_instance.specs.InstanceStates.{InstanceState}
use Rattle.am_instance.specs.Replies.{IsDone, IsEnded, IsLogged, IsReply, IsRequestReply, RefusedOr, listed, posted_over, silence_in_view}

-- two silences at most
abbrev AreFew : List Mesh → Type 0
AreFew vs = length vs ≤ 2

few : (vs ws : List Mesh) → vs ≡ ws → AreFew ws → AreFew vs
few vs ws same are = subst AreFew (sym same) are

no_silence : AreFew []
no_silence = omega (arith)

one_silence : (v : Mesh) → AreFew (v ∷ [])
one_silence v = omega (arith)

two_silences : (v w : Mesh) → AreFew (v ∷ w ∷ [])
two_silences v w = omega (arith)

plan_few : (plan : Plan) → AreFew (versions plan)
plan_few (plans.Update v) = one_silence v
plan_few (plans.Create v) = one_silence v
plan_few (plans.Replace new old) = two_silences new old

listed_few : (v : Option Mesh) → AreFew (listed v)
listed_few None = no_silence
listed_few (Some v) = one_silence v

-- ---- replies
refused_or : (refusal : Option SilenceError) (Done : Reply → Made → Type 0) (reply : Reply) (made : Made) →
    (Done reply made → AreFew made.silences.items) → RefusedOr refusal Done reply made → AreFew made.silences.items
refused_or None Done reply made done is = done is
refused_or (Some error) Done reply made done is = few made.silences.items [] is.nothing.silences no_silence

request_few : (old : InstanceState) (request : Request) (now : ℕ) (reply : Reply) (made : Made) → IsRequestReply old request now reply made → AreFew made.silences.items
request_few old (requests.List filters) now reply made is = few made.silences.items [] is.1.silences no_silence
request_few old (requests.Get id) now reply made is = few made.silences.items [] is.1.silences no_silence
request_few old (requests.Post posted bits) now reply made is =
    let plan = planned (posted_over now old.silences posted.id) (post_of posted now bits old.config.retention) in
    let Done : Reply → Made → Type 0 = IsDone plan in
    refused_or _ Done reply made (λ (done : IsDone plan reply made). few made.silences.items (versions plan) done.copies.silences (plan_few plan)) is.answer
request_few old (requests.Delete id) now reply made is =
    let ended = ended_of (silence_in_view now old.silences id) now old.config.retention in
    let Done : Reply → Made → Type 0 = IsEnded ended in
    refused_or _ Done reply made (λ (done : IsEnded ended reply made). few made.silences.items (listed ended) done.copies.silences (listed_few ended)) is

logged_few : (now : ℕ) (log : List LogMesh) (made_now : Bool) (entry : LogMesh) (reply : Reply) (made : Made) → IsLogged now log made_now entry reply made → AreFew made.silences.items
logged_few now log false entry reply made logged = few made.silences.items [] logged.1.silences no_silence
logged_few now log true entry reply made logged = few made.silences.items [] logged.1 no_silence

pub few_silences : (old : InstanceState) (event : Event) (now : ℕ) (reply : Reply) (made : Made) → IsReply old event now reply made → length made.silences.items ≤ 2
few_silences old (events.Request request) now reply made is = request_few old request now reply made is
few_silences old (events.Frame sender frame) now reply made is = few made.silences.items [] is.1.silences no_silence
few_silences old (events.Notified group_key receiver firing resolved repeat) now reply made is = logged_few now old.log _ _ reply made is
few_silences old (events.Decide group_key receiver firing resolved repeat send_resolved) now reply made is = few made.silences.items [] is.1.silences no_silence
few_silences old (events.Mutes labels) now reply made is = few made.silences.items [] is.1.silences no_silence
few_silences old events.Show now reply made is = few made.silences.items [] is.1.silences no_silence
few_silences old events.Tick now reply made is = few made.silences.items [] is.1.silences no_silence
few_silences old (events.PullFrom place) now reply made is = few made.silences.items [] is.1.silences no_silence
