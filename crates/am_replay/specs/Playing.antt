-- The playing of a schedule: a new cluster plays the lines one after the other, and then its members are reported on.
use Rattle.std.specs.Prelude.{◌≡◌, ◌⊎◌, ℕ, List, [], ◌∷◌, ◌++◌}
use Rattle.am_schedule.specs.declared.schedule.Schedule.{Schedule}
use Rattle.am_schedule.specs.declared.step.Line.{Line}
use Rattle.am_cluster.specs.Beginnings.{AreNewborn}
use Rattle.am_cluster.specs.Worlds.{World}
use Rattle.am_replay.specs.declared.error.ReplayError.{ReplayError}
use Rattle.am_replay.specs.declared.error.ReplayError.TheVariants.{Memory}
use Rattle.am_replay.specs.Lines.{IsPlayed}
use Rattle.am_replay.specs.Reports.{AreReports}

-- Lines with their numbers are played one after the other, and print this text.
abbrev pub ArePlayed : World → List (Line × ℕ) → List ℕ → World → Type 0
ArePlayed old [] text new = (text ≡ []) × (new ≡ old)
ArePlayed old (line ∷ lines) text new =
    (between : World) × (first others : List ℕ) × IsPlayed old line.0 line.1 first between × ArePlayed between lines others new
    × (text ≡ first ++ others)

-- Lines were played, and their text was appended to what was printed before.
pub record PlaysAll (old : World) (lines : List (Line × ℕ)) (new : World) (before after : List ℕ) : Type 0 where
  pub text : List ℕ
  pub played : ArePlayed old lines text new
  pub printed : after ≡ before ++ text

-- The text is everything that the playing of a schedule prints.
pub record IsOutput (schedule : Schedule) (text : List ℕ) : Type 0 where
  -- a new cluster of the schedule's members, with nothing in it
  pub begins : World
  pub newborn : AreNewborn schedule.names schedule.retention schedule.peer_timeout begins
  -- the cluster after its lines are played one after the other
  pub ends : World
  pub printed : List ℕ
  pub played : ArePlayed begins schedule.lines printed ends
  -- the reports on all members at the end
  pub reports : List ℕ
  pub calm : AreReports ends reports
  pub text_is : text ≡ printed ++ reports

-- The lines before the one of this number were played.
pub record Reaches (begins : World) (lines : List (Line × ℕ)) (number : ℕ) : Type 0 where
  pub before : List (Line × ℕ)
  pub line : Line
  pub behind : List (Line × ℕ)
  pub lines_are : lines ≡ before ++ (line, number) ∷ behind
  pub text : List ℕ
  pub stands : World
  pub played : ArePlayed begins before text stands

-- Memory ran out at the line of this number, which the playing had reached, or at no line.
abbrev pub IsHaltedAt : Schedule → ℕ → Type 0
IsHaltedAt schedule number =
    (number ≡ 0)
    ⊎ ((begins : World) × AreNewborn schedule.names schedule.retention schedule.peer_timeout begins × Reaches begins schedule.lines number)

-- A fault keeps a schedule from being played to its end, which it does only if memory ran out.
abbrev pub StopsPlaying : Schedule → ReplayError → Type 0
StopsPlaying schedule (Memory line) = IsHaltedAt schedule line
StopsPlaying schedule _ = ⊥
