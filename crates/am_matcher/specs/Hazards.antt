-- Silences that an Alertmanager can't hold.
use Rattle.std.specs.Prelude.{◌≡◌, ◌⊎◌, true, false, List, Option, Some, None, Any}
use Rattle.am_silence.specs.declared.matcher.Matcher.{Matcher}
use Rattle.am_silence.specs.declared.plan.Verdict.TheVariants.{Fine, AllEmpty}
use Rattle.am_matcher.specs.declared.dialect.Dialect.TheVariants.{Re2}
use Rattle.am_matcher.specs.declared.hazard.Hazard.{Hazard}
use Rattle.am_matcher.specs.declared.hazard.Hazard.TheVariants as hazards
use Rattle.am_matcher.specs.Matching.{IsVerdict}
use Rattle.am_matcher.specs.Dialects.{AreMeant, IsRefusedMatcher, are_labels}

-- The hazard is Pattern if a pattern is refused. Otherwise it is Matcher if a name isn't that of a label, or if all
-- matchers, perhaps none, match the empty text. Otherwise there is no hazard.
abbrev pub IsHazard : List Matcher → Option Hazard → Type 0
IsHazard matchers (Some hazards.Pattern) = Any (IsRefusedMatcher Re2) matchers
IsHazard matchers (Some hazards.Matcher) =
    (meant : List Matcher) × AreMeant Re2 matchers meant
    × (IsVerdict meant AllEmpty ⊎ (IsVerdict meant Fine × (are_labels matchers ≡ false)))
IsHazard matchers None = (meant : List Matcher) × AreMeant Re2 matchers meant × IsVerdict meant Fine × (are_labels matchers ≡ true)
