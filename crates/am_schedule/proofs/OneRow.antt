-- A line stands in one row of the table at most.
use Rattle.std.proofs.Common.{◌≡◌, ℕ, Bool, true, false, List, refl}
use Rattle.std.specs.Prelude.{codes, ◌&&◌}
use Rattle.std.proofs.lemmas.Slice.Eq.{bytes_eq-Decides}
use Rattle.am_schedule.specs.declared.form.Verb.{Verb}
use Rattle.am_schedule.specs.declared.form.Verb.TheVariants as verbs
use Rattle.am_schedule.specs.declared.form.VersionForm.TheVariants as versions
use Rattle.am_schedule.specs.declared.form.LineForm.TheVariants as lines
use Rattle.am_schedule.specs.declared.form.Form.TheVariants.{Cluster, Version, Other}
use Rattle.am_schedule.specs.Words.{word_at, has_word}
use Rattle.am_schedule.specs.Rows.{Row, has_count, is_line, event_row, verb_word, silence_row, log_row, stop_row, save_row, lose_row, timely_row, frames_row}
use Rattle.am_schedule.specs.Forms.{form_in, has_verb, verb_in}
use Rattle.am_schedule.specs.Laws.{OneForm, OneVerb}

left_true : (a b : Bool) → (a && b) ≡ true → a ≡ true
left_true true b is = refl
left_true false b is = absurd cc

right_true : (a b : Bool) → (a && b) ≡ true → b ≡ true
right_true true b is = is
right_true false b is = absurd cc

-- the word at a place
the_word : (place : ℕ) (word : List ℕ) (words : List (List ℕ)) → has_word place word words ≡ true → word_at place words ≡ word
the_word place word words is = (bytes_eq-Decides (word_at place words) word).0 is

-- the first word of a line, and that there are as many words as its row wants
line_facts : {R : Type 0} (verb : List ℕ) (first : ℕ) (row : Row R) (words : List (List ℕ)) → is_line verb first row words ≡ true
    → (word_at 0 words ≡ verb) × (has_count first row words ≡ true)
line_facts verb first row words is = (
  the_word 0 verb words (left_true (has_word 0 verb words) (has_count first row words) is),
  right_true (has_word 0 verb words) (has_count first row words) is,
)

pub one_form : OneForm
unfolding form_in
one_form Cluster words is = let word = the_word 0 (codes "cluster") words is in rw word refl
one_form (Version versions.Silence) words is = let facts = line_facts (codes "sil") 2 silence_row words is in rw (facts.0, facts.1) refl
one_form (Version versions.Log) words is = let facts = line_facts (codes "nfl") 2 log_row words is in rw (facts.0, facts.1) refl
one_form (Other lines.At) words is = let word = the_word 0 (codes "at") words is in rw word refl
one_form (Other lines.Stop) words is = let facts = line_facts (codes "stop") 1 stop_row words is in rw (facts.0, facts.1) refl
one_form (Other lines.Save) words is = let facts = line_facts (codes "save") 1 save_row words is in rw (facts.0, facts.1) refl
one_form (Other lines.Lose) words is = let facts = line_facts (codes "lose") 1 lose_row words is in rw (facts.0, facts.1) refl
one_form (Other lines.Timely) words is = let facts = line_facts (codes "timely") 1 timely_row words is in rw (facts.0, facts.1) refl
one_form (Other lines.Frames) words is = let facts = line_facts (codes "frames") 1 frames_row words is in rw (facts.0, facts.1) refl

-- the word of a line's verb, and that there are as many words as it wants
verb_facts : (verb : Verb) (words : List (List ℕ)) → has_verb verb words ≡ true
    → (word_at 3 words ≡ verb_word verb) × (has_count 4 (event_row verb) words ≡ true)
verb_facts verb words is = (
  the_word 3 (verb_word verb) words (left_true (has_word 3 (verb_word verb) words) (has_count 4 (event_row verb) words) is),
  right_true (has_word 3 (verb_word verb) words) (has_count 4 (event_row verb) words) is,
)

pub one_verb : OneVerb
unfolding verb_in
one_verb verbs.From words is = let facts = verb_facts verbs.From words is in rw (facts.0, facts.1) refl
one_verb verbs.Post words is = let facts = verb_facts verbs.Post words is in rw (facts.0, facts.1) refl
one_verb verbs.Expire words is = let facts = verb_facts verbs.Expire words is in rw (facts.0, facts.1) refl
one_verb verbs.Notified words is = let facts = verb_facts verbs.Notified words is in rw (facts.0, facts.1) refl
one_verb verbs.Decide words is = let facts = verb_facts verbs.Decide words is in rw (facts.0, facts.1) refl
one_verb verbs.Mutes words is = let facts = verb_facts verbs.Mutes words is in rw (facts.0, facts.1) refl
one_verb verbs.Show words is = let facts = verb_facts verbs.Show words is in rw (facts.0, facts.1) refl
one_verb verbs.Tick words is = let facts = verb_facts verbs.Tick words is in rw (facts.0, facts.1) refl
one_verb verbs.Pull words is = let facts = verb_facts verbs.Pull words is in rw (facts.0, facts.1) refl
one_verb verbs.Start words is = let facts = verb_facts verbs.Start words is in rw (facts.0, facts.1) refl
