-- Errors that are handed on, and what holds beside them.
use Rattle.std.proofs.Common.{◌≡◌, Result, Ok, Err, refl, sym, ap, rules, ◌∙◌}
use Rattle.std.specs.Prelude.{IfOk, IsErrOf, IsErrAnd, OnErr, OnOk}
use Rattle.am_matcher.specs.declared.compiled.BuildError.{BuildError}
use Rattle.am_matcher.specs.declared.compiled.BuildError.TheVariants as build
use Rattle.am_matcher.specs.declared.filter.FilterError.TheVariants as filter
use Rattle.am_matcher.specs.Errors.{of_build}

under_err : {T E : Type 0} (x y : E) → ◌≡◌ {A = Result T E} (Err x) (Err y) → x ≡ y
under_err x y e = cc

-- the result's error is the one given
pub given_error : {T E : Type 0} (r : Result T E) (given error : E) → IsErrAnd r (λ y. y ≡ given) → IsErrOf r error → given ≡ error
given_error (Ok x) given error is so = absurd is
given_error (Err y) given error is so = sym is ∙ under_err y error so

-- so it is the error of the result before
pub handed_on : {T U E : Type 0} (r : Result T E) (given error : E) → IsErrAnd r (λ y. y ≡ given) → IsErrOf r error → IsErrOf {T = U} (Err given) error
handed_on r given error is so = ap Err (given_error r given error is so)

-- what follows from what holds of a value, holds of it, too
pub if_ok_then : {T E : Type 0} (P Q : T → Type 0) (r : Result T E) → ((x : T) → P x → Q x) → IfOk r P → IfOk r Q
if_ok_then P Q (Ok x) then p = then x p
if_ok_then P Q (Err e) then p = tt

-- what follows from what holds where there is a value, holds there too
pub on_ok_then : {T E P Q : Type 0} (r : Result T E) → (P → Q) → OnOk r P → OnOk r Q
on_ok_then (Ok x) then p = then p
on_ok_then (Err e) then p = tt

-- what holds, holds also where there is an error
pub on_err : {T E P : Type 0} (r : Result T E) → P → OnErr r P
on_err (Ok x) p = tt
on_err (Err e) p = p

-- a bad pattern comes of a bad pattern
pub bad_of_build : (e : BuildError) → of_build e ≡ filter.BadPattern → e ≡ build.BadPattern
bad_of_build build.BadPattern is = refl
bad_of_build build.Memory is = search rules

-- no bad syntax does
pub no_syntax_of_build : (e : BuildError) → of_build e ≡ filter.Syntax → ⊥
no_syntax_of_build build.BadPattern is = search rules
no_syntax_of_build build.Memory is = search rules
