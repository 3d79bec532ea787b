-- The terms on which a decision is asked for, by the words of the query.
use Rattle.std.specs.Prelude.{◌≡◌, ◌≢◌, ℕ, Bool, List, codes, Option, Some, None, ⊤}
use Rattle.am_api_decisions.specs.Words.{word_in, number_or, truth_or, text_or}
use Rattle.am_api_decisions.specs.declared.cause.DecisionCause.{DecisionCause}
use Rattle.am_api_decisions.specs.declared.cause.DecisionCause.TheVariants.{BadQuery, Memory}
use Rattle.am_api_decisions.specs.declared.cause.QueryWord.{QueryWord}
use Rattle.am_api_decisions.specs.declared.cause.QueryWord.TheVariants.{Repeat, Resolved, Wait, Index}
use Rattle.am_api_decisions.specs.declared.terms.Terms.{Terms}

-- the number of seconds after which a notification is repeated: four hours if it is left out, and at least one second, and fewer
-- than 2 ^ 63 nanoseconds
abbrev pub repeat_in : List ℕ → Option ℕ
repeat_in query = number_or 14400 1 9223372036 (word_in (codes "repeat") query)

-- true if the receiver is told of resolved alerts
abbrev pub resolved_in : List ℕ → Option Bool
resolved_in query = truth_or (word_in (codes "resolved") query)

-- true if the reply waits for the member's turn
abbrev pub wait_in : List ℕ → Option Bool
wait_in query = truth_or (word_in (codes "wait") query)

-- the integration of the receiver
abbrev pub integration_in : List ℕ → List ℕ
integration_in query = text_or (codes "webhook") (word_in (codes "integration") query)

-- the number of the integration in its receiver, which has 32 bits
abbrev pub index_in : List ℕ → Option ℕ
index_in query = number_or 0 0 4294967295 (word_in (codes "index") query)

-- The terms are those of the query.
pub record IsTerms (query : List ℕ) (terms : Terms) : Type 0 where
  pub repeat : repeat_in query ≡ Some terms.repeat.seconds
  pub resolved : resolved_in query ≡ Some terms.send_resolved
  pub wait : wait_in query ≡ Some terms.waits
  pub integration : terms.integration ≡ integration_in query
  pub index : index_in query ≡ Some terms.index

-- The query has terms: none of its words is at fault.
abbrev pub HasTerms : List ℕ → Type 0
HasTerms query = (terms : Terms) × IsTerms query terms

-- The word is the first one that is at fault.
abbrev pub IsFirstBad : List ℕ → QueryWord → Type 0
IsFirstBad query Repeat = repeat_in query ≡ None
IsFirstBad query Resolved = (repeat_in query ≢ None) × (resolved_in query ≡ None)
IsFirstBad query Wait = (repeat_in query ≢ None) × (resolved_in query ≢ None) × (wait_in query ≡ None)
IsFirstBad query Index = (repeat_in query ≢ None) × (resolved_in query ≢ None) × (wait_in query ≢ None) × (index_in query ≡ None)

-- A word is refused for this cause: its value isn't valid, or memory ran out.
abbrev pub IsWordFault : Type 0 → QueryWord → DecisionCause → Type 0
IsWordFault IsBad word (BadQuery named) = (named ≡ word) × IsBad
IsWordFault IsBad word Memory = ⊤
IsWordFault IsBad word _ = ⊥

-- A query is refused for this cause: its first word that is at fault, or that memory ran out.
abbrev pub IsTermsFault : List ℕ → DecisionCause → Type 0
IsTermsFault query (BadQuery word) = IsFirstBad query word
IsTermsFault query Memory = ⊤
IsTermsFault query _ = ⊥
