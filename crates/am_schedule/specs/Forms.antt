-- The forms of lines: the verb of a line, if the line has as many words as that verb needs.
use Rattle.std.specs.Prelude.{ℕ, Bool, true, false, List, [], ◌∷◌, length, Option, Some, None, is_some, find, ◌==◌, ◌&&◌, codes, if◌then◌else◌}
use Rattle.am_schedule.specs.declared.form.Verb.{Verb}
use Rattle.am_schedule.specs.declared.form.VersionForm.TheVariants as versions
use Rattle.am_schedule.specs.declared.form.LineForm.{LineForm}
use Rattle.am_schedule.specs.declared.form.LineForm.TheVariants as lines
use Rattle.am_schedule.specs.declared.form.Form.{Form}
use Rattle.am_schedule.specs.declared.form.Form.TheVariants.{Cluster, Version, Other}
use Rattle.am_schedule.specs.Words.{has_word}
use Rattle.am_schedule.specs.Rows.{has_count, is_line, event_row, verb_word, all_verbs, silence_row, log_row, stop_row}
use Rattle.am_schedule.specs.Rows.{save_row, lose_row, timely_row, frames_row}

-- true if a line has a verb after a member's name, and as many words as that needs
abbrev pub has_verb : Verb → List (List ℕ) → Bool
has_verb verb words = has_word 3 (verb_word verb) words && has_count 4 (event_row verb) words

-- the verb after a member's name
unfoldable pub verb_in : List (List ℕ) → Option Verb
verb_in words = find (λ verb. has_verb verb words) all_verbs

-- true if a line that begins with `at` has a known verb, and as many words as that needs
abbrev pub has_at_form : List (List ℕ) → Bool
has_at_form words =
    if has_word 2 (codes "deliver") words then length words == 4 else
    if has_word 2 (codes "settle") words then length words == 3 else is_some (verb_in words)

-- true if a line of a form has as many words as its verb needs, if the form leaves that open
abbrev pub has_line_form : LineForm → List (List ℕ) → Bool
has_line_form lines.At words = has_at_form words
has_line_form form words = true

-- true if a line is of a form, by its first word and the number of its words
abbrev pub is_of : Form → List (List ℕ) → Bool
is_of Cluster words = has_word 0 (codes "cluster") words
is_of (Version versions.Silence) words = is_line (codes "sil") 2 silence_row words
is_of (Version versions.Log) words = is_line (codes "nfl") 2 log_row words
is_of (Other lines.At) words = has_word 0 (codes "at") words
is_of (Other lines.Stop) words = is_line (codes "stop") 1 stop_row words
is_of (Other lines.Save) words = is_line (codes "save") 1 save_row words
is_of (Other lines.Lose) words = is_line (codes "lose") 1 lose_row words
is_of (Other lines.Timely) words = is_line (codes "timely") 1 timely_row words
is_of (Other lines.Frames) words = is_line (codes "frames") 1 frames_row words

-- each form, in the order in which the forms are tried
abbrev pub all_forms : List Form
all_forms =
    Cluster ∷ Version versions.Silence ∷ Version versions.Log ∷ Other lines.At ∷ Other lines.Stop
    ∷ Other lines.Save ∷ Other lines.Lose ∷ Other lines.Timely ∷ Other lines.Frames ∷ []

-- The form of a line. The rest of an `at` line is judged later, and a second cluster line is wrong whatever it holds.
unfoldable pub form_in : List (List ℕ) → Option Form
form_in words = find (λ form. is_of form words) all_forms

-- true if a line after the cluster's has a known verb, and as many words as that needs
abbrev pub has_form_by : Option Form → List (List ℕ) → Bool
has_form_by None words = false
has_form_by (Some Cluster) words = false
has_form_by (Some (Version form)) words = true
has_form_by (Some (Other form)) words = has_line_form form words
