-- Filters, one text after the other.
use Rattle.std.proofs.Common.{◌≡◌, ℕ, ◌+◌, ◌<◌, ◌≤◌, List, [], ◌∷◌, ◌++◌, length, take, get_or, map, Any, ap, sym, ◌∙◌, false, Result, Ok, Err, is_ok, is_err, if◌then◌else◌}
use Rattle.std.proofs.lemmas.List.{take_more, map-append, take_all, get_or-map, length-map}
use Rattle.am_silence.specs.declared.matcher.Matcher.{Matcher}
use Rattle.am_matcher.specs.declared.dialect.Dialect.{Dialect}
use Rattle.am_http.specs.declared.cause.Cause.{Cause}
use Rattle.am_http.specs.declared.cause.Cause.TheVariants.{BadFilter, Memory}
use Rattle.am_api_silences.specs.Filters.{AreFilters, IsBadFilter, IsFilterFault, IsGoodFilter}

are_more : (dialect : Dialect) (texts : List (List ℕ)) (ms : List Matcher) (text : List ℕ) (m : Matcher)
    → AreFilters dialect texts ms → IsGoodFilter dialect text m → AreFilters dialect (texts ++ text ∷ []) (ms ++ m ∷ [])
are_more dialect [] [] text m are good = (good, tt)
are_more dialect [] (n ∷ ms) text m are good = absurd are
are_more dialect (t ∷ texts) [] text m are good = absurd are
are_more dialect (t ∷ texts) (n ∷ ms) text m are good = (are.0, are_more dialect texts ms text m are.1 good)

-- one text more
pub one_more : {X : Type 0} (dialect : Dialect) (f : X → List ℕ) (xs : List X) (i : ℕ) (ms : List Matcher) (x : X) (m : Matcher) → i < length xs → x ≡ get_or xs i x
    → AreFilters dialect (map f (take i xs)) ms → IsGoodFilter dialect (f x) m → AreFilters dialect (map f (take (i + 1) xs)) (ms ++ m ∷ [])
one_more dialect f xs i ms x m h e are good =
    rw (take_more xs i x h, ← e, map-append f (take i xs) (x ∷ [])) (are_more dialect (map f (take i xs)) ms (f x) m are good)

pub all_read : {X : Type 0} (dialect : Dialect) (f : X → List ℕ) (xs : List X) (i : ℕ) (ms : List Matcher) → length xs ≤ i → AreFilters dialect (map f (take i xs)) ms → AreFilters dialect (map f xs) ms
all_read dialect f xs i ms h are = rw take_all at are

-- a fault of one text is one among all
pub fault_among : (IsBad AreBad : Type 0) (cause : Cause) → (IsBad → AreBad) → IsFilterFault IsBad cause → IsFilterFault AreBad cause
fault_among IsBad AreBad BadFilter more fault = more fault
fault_among IsBad AreBad Memory more fault = fault
fault_among IsBad AreBad _ more fault = absurd fault

-- the bad text is one of them
pub any_bad : {X : Type 0} (dialect : Dialect) (f : X → List ℕ) (xs : List X) (i : ℕ) (x : X) → i < length xs → x ≡ get_or xs i x → IsBadFilter dialect (f x) → Any (IsBadFilter dialect) (map f xs)
any_bad dialect f xs i x h e bad = (i, f x, rw length-map h, get_or-map f xs i x (f x) h ∙ ap f (sym e), bad)

-- what was pushed stands at the end
pub pushed : {T E X : Type 0} (r : Result T E) (old new : List X) (x : X) → is_err r ≡ false → new ≡ (if is_ok r then old ++ x ∷ [] else old) → new ≡ old ++ x ∷ []
pushed (Ok t) old new x e is = is
pushed (Err t) old new x e is = cc
