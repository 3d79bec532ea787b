-- The values of an answer, and the notice that it is when posted back.
use Rattle.std.specs.Prelude.{◌≡◌, ℕ, ◌*◌, ◌<◌, ◌^◌, true, All, Some}
use Rattle.std.specs.Str.{IsUtf8}
use Rattle.am_matcher.specs.declared.labels.Label.{Label}
use Rattle.am_api_decisions.specs.Orders.{AreInOrder}
use Rattle.am_api_decisions.specs.declared.answer.Muted.{Muted}
use Rattle.am_api_decisions.specs.declared.answer.DecisionReply.{DecisionReply}
use Rattle.am_api_decisions.specs.declared.notice.Notice.{Notice}

pub record IsLabel (label : Label) : Type 0 where
  pub name : IsUtf8 label.name
  pub value : IsUtf8 label.value

pub record IsMuted (m : Muted) : Type 0 where
  pub labels : All IsLabel m.labels
  pub in_order : AreInOrder m.labels
  pub silenced_by : All IsUtf8 m.silenced_by.items
  pub more : m.more < 2 ^ 64

-- its texts are UTF-8, its numbers fit their bits, and the labels of each muted alert are in the order of their names
pub record IsAnswer (a : DecisionReply) : Type 0 where
  pub decided_at : IsUtf8 a.decided_at
  pub firing : All (λ hash. hash < 2 ^ 64) a.firing
  pub group_key : IsUtf8 a.group_key
  pub index : a.index < 2 ^ 32
  pub integration : IsUtf8 a.integration
  pub muted : All IsMuted a.muted.items
  pub receiver : IsUtf8 a.receiver
  pub repeat : a.repeat < 2 ^ 64
  pub resolved : All (λ hash. hash < 2 ^ 64) a.resolved
  pub turn_seconds : a.turn_seconds < 2 ^ 64

-- it says to notify, at an interval that can be logged
pub record IsToNotify (a : DecisionReply) : Type 0 where
  pub notify : a.notify ≡ true
  pub some : 0 < a.repeat
  pub few : a.repeat * 1_000_000_000 < 2 ^ 63

-- the notice that says the same, of a decision at this moment
abbrev pub notice_from : DecisionReply → ℕ → Notice
notice_from a moment = record {
  group_key = a.group_key;
  receiver = record { group_name = a.receiver; integration = a.integration; idx = a.index };
  firing = a.firing;
  resolved = a.resolved;
  repeat = a.repeat * 1_000_000_000;
  decided_at = Some moment;
}
