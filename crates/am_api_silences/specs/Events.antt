-- The event that a request means to an instance, or the first fault that applies.
use Rattle.std.specs.Prelude.{◌≡◌, ℕ, ◌⊎◌, List, Any, ⊤, Result, Ok, Err, string_bytes}
use Rattle.serde_json.specs.Data.{Data}
use Rattle.am_silence_json.specs.Posts.{IsPosted, IsFirstWrong, IsObjectText}
use Rattle.am_http.specs.Lines.{line_seen, line_of, told_to}
use Rattle.am_http.specs.Paths.{IsCallOf}
use Rattle.am_http.specs.Queries.{filter_texts_of}
use Rattle.am_matcher.specs.declared.dialect.Dialect.{Dialect}
use Rattle.am_matcher.specs.declared.dialect.Dialect.TheVariants.{Regex}
use Rattle.am_http.specs.declared.cause.Cause.{Cause}
use Rattle.am_http.specs.declared.cause.Cause.TheVariants.{BadFilter, BadJson, BadSilence, Memory}
use Rattle.am_http.specs.declared.refusal.Refusal.{Refusal}
use Rattle.am_http.specs.declared.request.Request.{Request}
use Rattle.am_http.specs.declared.routes.Call.{Call}
use Rattle.am_http.specs.declared.routes.Call.TheVariants as calls
use Rattle.am_instance.specs.declared.event.Event.{Event}
use Rattle.am_instance.specs.declared.event.Event.TheVariants as events
use Rattle.am_instance.specs.declared.event.Request.{Request as SilenceRequest}
use Rattle.am_instance.specs.declared.event.Request.TheVariants as requests
use Rattle.am_api_silences.specs.Filters.{AreFilters, IsBadFilter}

-- A call with this body asks this of an instance: the silences that pass all filters of the query, the silence of an identifier,
-- the post of the object that the body is, or the end of a silence. The dialect is that of patterns.
abbrev pub Asks : Dialect → Call → List ℕ → ℕ → SilenceRequest → Type 0
Asks dialect (calls.List query) body bits (requests.List filters) = AreFilters dialect (filter_texts_of query.now) filters.items
Asks dialect (calls.Get id) body bits (requests.Get asked) = asked ≡ id.now
Asks dialect calls.Post body bits (requests.Post posted given) = (given ≡ bits) × (d : Data) × IsObjectText body d × IsPosted d posted
Asks dialect (calls.Delete id) body bits (requests.Delete asked) = asked ≡ id.now
Asks dialect _ body bits _ = ⊥

-- A call has this fault: a filter, or the body that is posted. Memory may run out in any of them.
abbrev pub HasFault : Dialect → Call → List ℕ → Cause → Type 0
HasFault dialect call body Memory = ⊤
HasFault dialect (calls.List query) body BadFilter = Any (IsBadFilter dialect) (filter_texts_of query.now)
HasFault dialect calls.Post body BadJson = (d : Data) → ¬ IsObjectText body d
HasFault dialect calls.Post body (BadSilence key) = (d : Data) × IsObjectText body d × IsFirstWrong d key
HasFault dialect _ body _ = ⊥

-- the result is what is asked, or the fault
abbrev pub IsAsk : Dialect → Call → List ℕ → ℕ → Result SilenceRequest Cause → Type 0
IsAsk dialect call body bits (Ok asked) = Asks dialect call body bits asked
IsAsk dialect call body bits (Err cause) = HasFault dialect call body cause

-- the result is the call of a request, or the fault if it has none
abbrev pub IsCall : Request → Result Call Cause → Type 0
IsCall request call = IsCallOf (string_bytes request.method) (string_bytes request.target) call

-- a request is refused for this cause: its path names nothing, or has no such method; or there is a fault in its call
abbrev pub IsRefusedFor : Dialect → Request → Cause → Type 0
IsRefusedFor dialect request cause = IsCall request (Err cause)
    ⊎ ((call : Call) × IsCall request (Ok call) × HasFault dialect call request.body.items cause)

-- a request asks for this, by its call
abbrev pub IsMeant : Dialect → Request → ℕ → SilenceRequest → Type 0
IsMeant dialect request bits asked = (call : Call) × IsCall request (Ok call) × Asks dialect call request.body.items bits asked

-- A request means this: the event that its call asks for, or the line of the first fault that applies, as its method is told it.
abbrev pub IsEventIn : Dialect → Request → ℕ → Result Event Refusal → Type 0
IsEventIn dialect request bits (Ok (events.Request asked)) = IsMeant dialect request bits asked
IsEventIn dialect request bits (Ok _) = ⊥
IsEventIn dialect request bits (Err refusal) =
    (cause : Cause) × (line_seen refusal ≡ told_to (string_bytes request.method) (line_of cause)) × IsRefusedFor dialect request cause

-- the same with patterns of `regex`
abbrev pub IsEventOf : Request → ℕ → Result Event Refusal → Type 0
IsEventOf = IsEventIn Regex
