-- Questions whether a group is to be notified.
use Rattle.std.specs.Prelude.{ℕ, Bool, not, List}
use Rattle.am_nflog.specs.LogKeys.{LogKey}
use Rattle.am_nflog.specs.declared.receiver.Receiver.{Receiver}
use Rattle.am_dedup.specs.Decisions.{has_none, set_of}
use Rattle.am_dedup.specs.declared.decision.Decision.TheVariants.{Notify}
use Rattle.am_dedup.specs.declared.decision.Reason.TheVariants.{First}
use Rattle.am_instance.specs.declared.event.Event.{Event}
use Rattle.am_instance.specs.declared.event.Event.TheVariants as events
use Rattle.am_instance.specs.declared.reply.Reply.{Reply}
use Rattle.am_instance.specs.declared.reply.Reply.TheVariants as replies

-- the question whether a group is to be notified of its firing and its resolved alerts
pub record Question : Type 0 where
  pub group_key : List ℕ
  pub receiver : Receiver
  pub firing : List ℕ
  pub resolved : List ℕ
  pub repeat : ℕ
  pub send_resolved : Bool

-- the event that asks the question
abbrev pub asks : Question → Event
asks asked = events.Decide asked.group_key asked.receiver asked.firing asked.resolved asked.repeat asked.send_resolved

-- the key of the group's entry
abbrev pub key_of : Question → LogKey
key_of asked = record { group_key = asked.group_key; receiver = asked.receiver }

-- true if some alert of the group fires
abbrev pub something_fires : Question → Bool
something_fires asked = not (has_none (set_of asked.firing))

-- the reply that the group is to be notified for the first time
abbrev pub is_first : Reply
is_first = replies.Decided (Notify First)
