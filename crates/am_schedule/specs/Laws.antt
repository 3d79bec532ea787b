-- Laws about all texts.
use Rattle.std.specs.Prelude.{◌≡◌, ℕ, true, ◌+◌, ◌≤◌, List, ◌∷◌, ◌++◌, length, Some, Err, IsErrAnd}
use Rattle.am_schedule.specs.declared.error.FaultKind.{FaultKind}
use Rattle.am_schedule.specs.declared.form.Form.{Form}
use Rattle.am_schedule.specs.declared.form.Verb.{Verb}
use Rattle.am_schedule.specs.Forms.{is_of, form_in, has_verb, verb_in}
use Rattle.am_schedule.specs.Schedules.{lines_of, meaning, AreSound, schedule_of}

-- if a line of the text is at fault and no line before it is, that line is reported
abbrev pub FirstIsTold : Type 0
FirstIsTold =
    (text : List ℕ) (before : List (List ℕ)) (line : List ℕ) (behind : List (List ℕ)) (kind : FaultKind)
    → lines_of text ≡ before ++ line ∷ behind → AreSound before → meaning before line ≡ Err kind
    → schedule_of text ≡ Err (record { line = length before + 1; kind = kind })

-- if a line of the text is at fault, no later line is reported
abbrev pub NoLaterIsTold : Type 0
NoLaterIsTold =
    (text : List ℕ) (before : List (List ℕ)) (line : List ℕ) (behind : List (List ℕ)) (kind : FaultKind)
    → lines_of text ≡ before ++ line ∷ behind → meaning before line ≡ Err kind
    → IsErrAnd (schedule_of text) (λ error. error.line ≤ length before + 1)

-- a line has at most one form, so the order in which forms are tried makes no difference
abbrev pub OneForm : Type 0
OneForm = (form : Form) (words : List (List ℕ)) → is_of form words ≡ true → form_in words ≡ Some form

-- a line has at most one verb
abbrev pub OneVerb : Type 0
OneVerb = (verb : Verb) (words : List (List ℕ)) → has_verb verb words ≡ true → verb_in words ≡ Some verb
