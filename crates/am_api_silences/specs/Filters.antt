-- The filters of a query.
use Rattle.std.specs.Prelude.{ℕ, ◌⊎◌, List, [], ◌∷◌, ⊤}
use Rattle.am_silence.specs.declared.matcher.Matcher.{Matcher}
use Rattle.am_matcher.specs.declared.dialect.Dialect.{Dialect}
use Rattle.am_matcher.specs.Filters.{IsFilter}
use Rattle.am_matcher.specs.Matching.{IsSoundMatcher}
use Rattle.am_matcher.specs.Dialects.{IsFilterIn, IsRefusedMatcher}
use Rattle.am_http.specs.declared.cause.Cause.{Cause}
use Rattle.am_http.specs.declared.cause.Cause.TheVariants.{BadFilter, Memory}

-- the text is a filter that can be used, and stands for the matcher, as the dialect means it
abbrev pub IsGoodFilter : Dialect → List ℕ → Matcher → Type 0
IsGoodFilter dialect text m = IsFilterIn dialect text m × IsSoundMatcher m

-- the texts are filters, one after the other
abbrev pub AreFilters : Dialect → List (List ℕ) → List Matcher → Type 0
AreFilters dialect [] [] = Unit {0}
AreFilters dialect [] (m ∷ ms) = ⊥
AreFilters dialect (text ∷ texts) [] = ⊥
AreFilters dialect (text ∷ texts) (m ∷ ms) = IsGoodFilter dialect text m × AreFilters dialect texts ms

-- the text is no filter, or its pattern is broken in the dialect
abbrev pub IsBadFilter : Dialect → List ℕ → Type 0
IsBadFilter dialect text = ((m : Matcher) → ¬ IsFilter text m) ⊎ ((m : Matcher) × IsFilter text m × IsRefusedMatcher dialect m)

-- filters are refused for this cause: one of them is bad, which holds then, or memory ran out
abbrev pub IsFilterFault : Type 0 → Cause → Type 0
IsFilterFault IsBad BadFilter = IsBad
IsFilterFault IsBad Memory = ⊤
IsFilterFault IsBad _ = ⊥
