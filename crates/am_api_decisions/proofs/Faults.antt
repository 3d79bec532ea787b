-- The first fault: a word of the query, or the body.
use Rattle.std.proofs.Common.{List, ℕ}
use Rattle.am_api_decisions.specs.ParsedCalls.{IsQuestionFault}
use Rattle.am_api_decisions.specs.Bodies.{IsMessageFault}
use Rattle.am_api_decisions.specs.Terms.{IsTerms}
use Rattle.am_api_decisions.specs.declared.cause.DecisionCause.{DecisionCause}
use Rattle.am_api_decisions.specs.declared.cause.DecisionCause.TheVariants.{BadJson, BadMessage, Memory, Truncated}
use Rattle.am_api_decisions.specs.declared.terms.Terms.{Terms}

-- the body is at fault, and no word of the query
pub body_fault : (query body : List ℕ) (terms : Terms) (cause : DecisionCause) → IsTerms query terms → IsMessageFault body cause → IsQuestionFault query body cause
body_fault query body terms BadJson are fault = ((terms, are), fault)
body_fault query body terms (BadMessage key) are fault = ((terms, are), fault)
body_fault query body terms Truncated are fault = ((terms, are), fault)
body_fault query body terms Memory are fault = fault
body_fault query body terms _ are fault = absurd fault
