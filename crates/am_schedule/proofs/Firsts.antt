-- The first fault of lines.
use Rattle.std.proofs.Common.{◌≡◌, ℕ, ◌+◌, ◌≤◌, List, [], ◌∷◌, ◌++◌, length, Option, Some, None, Result, Ok, Err, refl, ap, ◌∙◌, append_assoc, add-zero, suc, arith}
use Rattle.std.proofs.lemmas.List.{append-nil}
use Rattle.am_schedule.specs.declared.error.FaultKind.{FaultKind}
use Rattle.am_schedule.specs.declared.error.ScheduleError.{ScheduleError}
use Rattle.am_schedule.specs.declared.step.Line.{Line}
use Rattle.am_schedule.specs.Schedules.{meaning, meanings, first_fault, schedule_in, schedule_of}
use Rattle.am_schedule.specs.Laws.{FirstIsTold, NoLaterIsTold}

-- the fault of a line behind sound ones
abbrev ToldAt : ℕ → List (Result (Option Line) FaultKind) → ℕ → FaultKind → Type 0
ToldAt number says line kind = first_fault number says ≡ Some (record { line = line; kind = kind })

told_by : (r : Result (Option Line) FaultKind) (number count : ℕ) (kind : FaultKind) (before all : List (Result (Option Line) FaultKind))
    → (first_fault (number + 1) before ≡ None → ToldAt (number + 1) all (number + 1 + count) kind)
    → first_fault number (r ∷ before) ≡ None → ToldAt number (r ∷ all) (number + suc count) kind
told_by (Ok y) number count kind before all later sound = later sound ∙ ap (λ n. Some (record { line = n; kind = kind })) (omega arith)
told_by (Err other) number count kind before all later sound = absurd cc

told : (number : ℕ) (done before : List (List ℕ)) (line : List ℕ) (behind : List (List ℕ)) (kind : FaultKind) → meaning (done ++ before) line ≡ Err kind → first_fault number (meanings done before) ≡ None
    → ToldAt number (meanings done (before ++ line ∷ behind)) (number + length before) kind
told number done [] line behind kind wrong sound =
    let here : meaning done line ≡ Err kind = simp append-nil at wrong in
    rw (here, add-zero) refl
told number done (x ∷ before) line behind kind wrong sound =
    told_by (meaning done x) number (length before) kind (meanings (done ++ x ∷ []) before) (meanings (done ++ x ∷ []) (before ++ line ∷ behind))
    (told (number + 1) (done ++ x ∷ []) before line behind kind (rw append_assoc wrong)) sound

-- a fault at a line or before it
abbrev ToldUpTo : ℕ → List (Result (Option Line) FaultKind) → ℕ → Type 0
ToldUpTo number says line = (error : ScheduleError) × (first_fault number says ≡ Some error) × (error.line ≤ line)

up_to_by : (r : Result (Option Line) FaultKind) (number count : ℕ) (all : List (Result (Option Line) FaultKind)) → ToldUpTo (number + 1) all (number + 1 + count) → ToldUpTo number (r ∷ all) (number + suc count)
up_to_by (Ok y) number count all later = (later.0, later.1, omega (arith, later.2))
up_to_by (Err other) number count all later = (record { line = number; kind = other }, refl, omega arith)

up_to : (number : ℕ) (done before : List (List ℕ)) (line : List ℕ) (behind : List (List ℕ)) (kind : FaultKind) → meaning (done ++ before) line ≡ Err kind
    → ToldUpTo number (meanings done (before ++ line ∷ behind)) (number + length before)
up_to number done [] line behind kind wrong =
    let here : meaning done line ≡ Err kind = simp append-nil at wrong in
    (record { line = number; kind = kind }, rw here refl, omega arith)
up_to number done (x ∷ before) line behind kind wrong =
    up_to_by (meaning done x) number (length before) (meanings (done ++ x ∷ []) (before ++ line ∷ behind)) (up_to (number + 1) (done ++ x ∷ []) before line behind kind (rw append_assoc wrong))

pub first_is_told : FirstIsTold
unfolding schedule_of schedule_in
first_is_told text before line behind kind is sound wrong =
    rw (is, told 1 [] before line behind kind wrong sound) (ap (λ n. Err (record { line = n; kind = kind })) (omega arith))

pub no_later_is_told : NoLaterIsTold
unfolding schedule_of schedule_in
no_later_is_told text before line behind kind is wrong =
    let fault = up_to 1 [] before line behind kind wrong in
    rw (is, fault.1) (omega (arith, fault.2))
