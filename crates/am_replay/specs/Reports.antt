-- The reports at the end: whether each member was calm, or else the line of its first fault.
use Rattle.std.specs.Prelude.{◌≡◌, ℕ, ◌+◌, List, [], ◌∷◌, ◌++◌, length, Option, Some, None, MatchOption}
use Rattle.am_cluster.specs.Reports.{IsCalmInBoth, IsLineOfFault}
use Rattle.am_cluster.specs.Ties.{names_in}
use Rattle.am_cluster.specs.Worlds.{World}
use Rattle.am_replay.specs.declared.line.OutputLine.TheVariants as lines
use Rattle.am_replay.specs.Texts.{lent, told}

-- The member at a place was calm, or this is the line of its first fault.
abbrev pub IsReport : World → ℕ → Option ℕ → Type 0
IsReport world place fault =
    MatchOption fault (IsCalmInBoth (length world.replicas) place world.silences world.log)
    (IsLineOfFault (length world.replicas) place world.silences world.log world.lines)

-- the printed report on a member
abbrev pub report_text : List ℕ → Option ℕ → List ℕ
report_text name None = told (lines.Calm (lent name))
report_text name (Some line) = told (lines.Uncalm (lent name) line)

-- The text is the reports on the members of these names, the first of which is at this place.
abbrev pub AreReportsFrom : World → ℕ → List (List ℕ) → List ℕ → Type 0
AreReportsFrom world place [] text = text ≡ []
AreReportsFrom world place (name ∷ names) text =
    (fault : Option ℕ) × (others : List ℕ) × IsReport world place fault × AreReportsFrom world (place + 1) names others
    × (text ≡ report_text name fault ++ others)

-- The text is the reports on all members, by their names.
abbrev pub AreReports : World → List ℕ → Type 0
AreReports world text = AreReportsFrom world 0 (names_in world) text

-- The reports on members were appended to what was printed before.
pub record PrintsReports (world : World) (names : List (List ℕ)) (before after : List ℕ) : Type 0 where
  pub text : List ℕ
  pub reports : AreReportsFrom world 0 names text
  pub printed : after ≡ before ++ text
