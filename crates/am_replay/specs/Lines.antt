-- The effect of a line of a schedule on a cluster, and the text that it prints.
use Rattle.std.specs.Prelude.{◌≡◌, ◌↔◌, ℕ, Bool, List, ◌++◌, length, Some, Result, IsTrue}
use Rattle.std.specs.List.{flat_map}
use Rattle.am_instance.specs.declared.reply.Reply.{Reply}
use Rattle.am_schedule.specs.declared.step.Line.{Line}
use Rattle.am_schedule.specs.declared.step.Line.TheVariants as kinds
use Rattle.am_cluster.specs.Reports.{AreTimely}
use Rattle.am_cluster.specs.declared.error.ClusterError.{ClusterError}
use Rattle.am_cluster.specs.declared.error.SettleError.{SettleError}
use Rattle.am_cluster.specs.Settling.{IsSettle}
use Rattle.am_cluster.specs.Steps.{IsStepped}
use Rattle.am_cluster.specs.Worlds.{World}
use Rattle.am_replay.specs.Texts.{flight_text, settle_text, step_text, timely_text}

-- A line is played: a step or a settle is made, and memory didn't run out. A question about the run so far changes nothing.
abbrev pub IsPlayed : World → Line → ℕ → List ℕ → World → Type 0
IsPlayed old (kinds.Step action) number text new =
    (result : Result Reply ClusterError) × IsStepped old action number result new × (step_text action result ≡ Some text)
IsPlayed old (kinds.Settle now) number text new =
    (result : Result Unit SettleError) × IsSettle old now number result new × (settle_text result ≡ Some text)
IsPlayed old (kinds.Timely spread flight) number text new =
    (answer : Bool) × (IsTrue answer ↔ AreTimely spread flight (length old.replicas) old.silences old.log)
    × (text ≡ timely_text answer) × (new ≡ old)
IsPlayed old kinds.Frames number text new = (text ≡ flat_map (flight_text old) old.flights) × (new ≡ old)

-- A line was played, and its text was appended to what was printed before.
pub record Plays (old : World) (line : Line) (number : ℕ) (new : World) (before after : List ℕ) : Type 0 where
  pub text : List ℕ
  pub played : IsPlayed old line number text new
  pub printed : after ≡ before ++ text
