-- A decision that is being made: the alerts that are still to be asked, and the tally of the others.
use Rattle.std.specs.Prelude.{◌≡◌, ◌⊎◌, ℕ, ◌≤◌, List, [], length, Result, Ok, Err}
use Rattle.am_api_decisions.specs.declared.message.Alert.{Alert}
use Rattle.am_http.specs.Lines.{line_seen}
use Rattle.am_http.specs.declared.refusal.Refusal.{Refusal}
use Rattle.am_instance.specs.InstanceStates.{InstanceState}
use Rattle.am_api_decisions.specs.Asking.{AskedAlert, Counted, IsAskedOn, IsStopped, nothing_counted}
use Rattle.am_api_decisions.specs.declared.parsed_call.Question.{Question}
use Rattle.am_api_decisions.specs.declared.group.Group.{Group}

-- the group, the alerts that are still to be asked, and the tally of the others
pub record Underway : Type 0 where
  pub group : Group
  pub left : List Alert
  pub counted : Counted

-- the group that a question is about
abbrev pub group_of : Question → Group
group_of question = record { group_key = question.message.group_key; receiver = question.message.receiver; terms = question.terms }

-- a question none of whose alerts has been asked
abbrev pub underway_of : Question → Underway
underway_of question = record { group = group_of question; left = question.message.alerts.items; counted = nothing_counted }

-- The next `most` alerts were asked, or all that were left, each by one step at the moment.
pub record GoesOn (now most : ℕ) (before : Underway) (old : InstanceState) (after : Underway) (new : InstanceState) : Type 0 where
  pub asked : List AskedAlert
  pub on : IsAskedOn now before.left before.counted old asked after.left after.counted new
  pub few : length asked ≤ most
  pub all : (length asked ≡ most) ⊎ (after.left ≡ [])
  pub group : after.group ≡ before.group

-- More alerts were asked, or asking stopped at one of those that were left.
abbrev pub IsGoingOn : ℕ → ℕ → Underway → InstanceState → Result Underway Refusal → InstanceState → Type 0
IsGoingOn now most before old (Ok after) new = GoesOn now most before old after new
IsGoingOn now most before old (Err refusal) new = IsStopped now before.left old (line_seen refusal) new
