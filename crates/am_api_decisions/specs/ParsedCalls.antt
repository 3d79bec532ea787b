-- The question of a request, or its first fault.
use Rattle.std.specs.Prelude.{◌≡◌, ℕ, ◌≤◌, ◌⊎◌, List, All, length, ⊤, Result, Ok, Err, string_bytes}
use Rattle.am_http.specs.Lines.{line_seen, told_to}
use Rattle.am_http.specs.declared.refusal.Refusal.{Refusal}
use Rattle.am_http.specs.declared.request.Request.{Request}
use Rattle.am_matcher.specs.declared.labels.Label.{Label}
use Rattle.am_api_decisions.specs.declared.parsed_call.ParsedCall.{ParsedCall}
use Rattle.am_api_decisions.specs.declared.parsed_call.ParsedCall.TheVariants as asked
use Rattle.am_api_decisions.specs.declared.parsed_call.Question.{Question}
use Rattle.am_api_decisions.specs.declared.cause.DecisionCause.{DecisionCause}
use Rattle.am_api_decisions.specs.declared.cause.DecisionCause.TheVariants.{BadQuery, Memory}
use Rattle.am_api_decisions.specs.declared.routes.DecisionCall.{DecisionCall}
use Rattle.am_api_decisions.specs.declared.routes.DecisionCall.TheVariants as calls
use Rattle.am_api_decisions.specs.Bodies.{IsMessageFault, IsMessageIn, IsNoticeFault, IsNoticeIn}
use Rattle.am_api_decisions.specs.Calls.{IsCallOf}
use Rattle.am_api_decisions.specs.Lines.{line_of}
use Rattle.am_api_decisions.specs.Terms.{HasTerms, IsFirstBad, IsTerms}

-- No value of these labels has more bytes than this.
abbrev pub AreWithin : ℕ → List Label → Type 0
AreWithin most labels = All (λ l. length l.value ≤ most) labels

-- The question has the terms of the query and the message of the body.
pub record IsQuestion (query body : List ℕ) (question : Question) : Type 0 where
  pub terms : IsTerms query question.terms
  pub message : IsMessageIn body question.message

-- A word of the query is at fault; or none is, and the body is.
abbrev pub IsQuestionFault : List ℕ → List ℕ → DecisionCause → Type 0
IsQuestionFault query body (BadQuery word) = IsFirstBad query word
IsQuestionFault query body Memory = ⊤
IsQuestionFault query body cause = HasTerms query × IsMessageFault body cause

-- A call with this body asks this.
abbrev pub Asks : DecisionCall → List ℕ → ParsedCall → Type 0
Asks (calls.Decide query) body (asked.Decide question) = IsQuestion query.now body question
Asks calls.Notified body (asked.Notified notice) = IsNoticeIn body notice
Asks calls.Log body asked.Log = ⊤
Asks calls.Alerts body asked.Alerts = ⊤
Asks _ body _ = ⊥

-- The call has this fault; a call for the log or for the alerts has none.
abbrev pub HasFault : DecisionCall → List ℕ → DecisionCause → Type 0
HasFault (calls.Decide query) body cause = IsQuestionFault query.now body cause
HasFault calls.Notified body cause = IsNoticeFault body cause
HasFault calls.Log body cause = ⊥
HasFault calls.Alerts body cause = ⊥

-- The request makes this call, or none for this cause.
abbrev pub IsCall : Request → Result DecisionCall DecisionCause → Type 0
IsCall request call = IsCallOf (string_bytes request.method) (string_bytes request.target) call

-- The request asks this, by its call.
abbrev pub IsAskedBy : Request → ParsedCall → Type 0
IsAskedBy request what = (call : DecisionCall) × IsCall request (Ok call) × Asks call request.body.items what

-- The request is refused for this cause: its path names nothing, or has no such method; or its call has a fault.
abbrev pub IsRefusedFor : Request → DecisionCause → Type 0
IsRefusedFor request cause = IsCall request (Err cause)
    ⊎ ((call : DecisionCall) × IsCall request (Ok call) × HasFault call request.body.items cause)

-- The request asks this, by its call; or it is refused with the line of its first fault, as its method is told it.
abbrev pub IsAsked : Request → Result ParsedCall Refusal → Type 0
IsAsked request (Ok what) = IsAskedBy request what
IsAsked request (Err refusal) =
    (cause : DecisionCause) × (line_seen refusal ≡ told_to (string_bytes request.method) (line_of cause)) × IsRefusedFor request cause
