-- The table of statuses of the calls on decisions: the line for each cause of a refusal.
use Rattle.std.specs.Prelude.{ℕ, List, ◌++◌, false, Some, codes}
use Rattle.am_api_decisions.specs.declared.key.MessageKey.{MessageKey}
use Rattle.am_api_decisions.specs.Keys.{key_text}
use Rattle.am_http.specs.Lines.{RefusalLine, line}
use Rattle.am_api_silences.specs.Table.{clock_line, memory_line}
use Rattle.am_gossip.specs.declared.refusals.StepError.{StepError}
use Rattle.am_gossip.specs.declared.refusals.StepError.TheVariants.{MomentBack, Frame}
use Rattle.am_api_decisions.specs.declared.cause.DecisionCause.{DecisionCause}
use Rattle.am_api_decisions.specs.declared.cause.DecisionCause.TheVariants.{NoSuchPath, MethodNotAllowed, BadQuery, BadJson, BadMessage, Truncated, Memory}
use Rattle.am_api_decisions.specs.declared.cause.DecisionResource.{DecisionResource}
use Rattle.am_api_decisions.specs.declared.cause.DecisionResource.TheVariants.{Decisions, Notices, Entries, Alerts}
use Rattle.am_api_decisions.specs.declared.cause.QueryWord.{QueryWord}
use Rattle.am_api_decisions.specs.declared.cause.QueryWord.TheVariants.{Repeat, Resolved, Wait, Index}

-- the method of a resource
abbrev pub allowed_at : DecisionResource → List ℕ
allowed_at Decisions = codes "POST"
allowed_at Notices = codes "POST"
allowed_at Entries = codes "GET"
allowed_at Alerts = codes "GET"

-- the text for a word of the query
abbrev pub bad_word : QueryWord → List ℕ
bad_word Repeat = codes "bad query: repeat"
bad_word Resolved = codes "bad query: resolved"
bad_word Wait = codes "bad query: wait"
bad_word Index = codes "bad query: index"

-- the text for a key of a message
abbrev pub bad_key : MessageKey → List ℕ
bad_key key = codes "bad message: " ++ key_text key

-- the table, in the order in which its lines are tested (status codes of RFC 9110, section 15)
abbrev pub line_of : DecisionCause → RefusalLine
line_of NoSuchPath = line 404 (codes "no such path")
line_of (MethodNotAllowed resource) =
    record { status = 405; text = codes "method not allowed"; allow = Some (allowed_at resource); bare = false }
line_of (BadQuery word) = line 400 (bad_word word)
line_of BadJson = line 400 (codes "bad JSON")
line_of (BadMessage key) = line 400 (bad_key key)
line_of Truncated = line 400 (codes "truncated alerts")
line_of Memory = line 500 (codes "out of memory")

-- the line for a step that is refused: the moment is before the last one, an entry's text is over its limit, or there is no
-- memory
abbrev pub error_line : StepError → RefusalLine
error_line (MomentBack last) = clock_line
error_line (Frame fault) = line 400 (codes "entry too large")
error_line _ = memory_line
