-- A line that is taken, and what stands before the next one.
use Rattle.std.proofs.Common.{◌≡◌, ◌≢◌, ℕ, Bool, true, false, List, [], ◌∷◌, ◌++◌, Option, Some, None, Result, Ok, Err, refl, sym, ap, ◌∙◌, rules}
use Rattle.std.specs.Prelude.{IfOk, IfErr, is_none, is_some, ◌&&◌, ◌==◌, length, codes, if◌then◌else◌}
use Rattle.std.specs.Str.{bytes_eq, is_utf8}
use Rattle.std.proofs.lemmas.List.{append-nil}
use Rattle.std.proofs.lemmas.Slice.Eq.{bytes_eq-Decides}
use Rattle.am_schedule.specs.declared.error.FaultKind.{FaultKind}
use Rattle.am_schedule.specs.declared.error.FaultKind.TheVariants as faults
use Rattle.am_schedule.specs.declared.cluster.ClusterLine.{ClusterLine}
use Rattle.am_schedule.specs.declared.form.VersionForm.{VersionForm}
use Rattle.am_schedule.specs.declared.form.Verb.{Verb}
use Rattle.am_schedule.specs.declared.form.LineForm.{LineForm}
use Rattle.am_schedule.specs.declared.form.LineForm.TheVariants as forms
use Rattle.am_schedule.specs.declared.form.Form.TheVariants.{Cluster, Version, Other}
use Rattle.am_schedule.specs.declared.step.VersionLine.{VersionLine}
use Rattle.am_schedule.specs.declared.step.Line.{Line}
use Rattle.am_schedule.specs.declared.reader.Reader.{Reader}
use Rattle.am_schedule.specs.Words.{word_at, words_of, has_word}
use Rattle.am_schedule.specs.Tables.{value_in}
use Rattle.am_schedule.specs.Forms.{verb_in, form_in, has_line_form}
use Rattle.am_schedule.specs.Labels.{is_label}
use Rattle.am_schedule.specs.VersionLines.{version_in}
use Rattle.am_schedule.specs.StepLines.{deliver_in, settle_in, member_line_in, at_line_in, line_in}
use Rattle.am_schedule.specs.Clusters.{cluster_in}
use Rattle.am_schedule.specs.Schedules.{value_of, first_value, words_in, labelled, version_by, cluster_of, version_of, definition_in, said_in, meaning, is_passed_over, has_form, is_formed, numbered}
use Rattle.am_schedule.specs.Readings.{◌>>=◌, or_fault, or_else}
use Rattle.am_schedule.specs.Readers.{Stands, Took}

-- ---- one line more

or_none : {A : Type 0} (o : Option A) → o ≡ or_else o None
or_none None = refl
or_none (Some x) = refl

or_else-assoc : {A : Type 0} (a b c : Option A) → or_else a (or_else b c) ≡ or_else (or_else a b) c
or_else-assoc None b c = refl
or_else-assoc (Some x) b c = refl

first_value-append : {A B : Type 0} (value : A → Option B) (xs : List A) (x : A) → first_value value (xs ++ x ∷ []) ≡ or_else (first_value value xs) (value x)
first_value-append value [] x = sym (or_none (value x))
first_value-append value (y ∷ ys) x = ap (λ o. or_else (value y) o) (first_value-append value ys x) ∙ or_else-assoc (value y) (first_value value ys) (value x)

-- what stands before the next line
pub stands_more : (before : List (List ℕ)) (line : List ℕ) (old new : Reader) → Stands before old
    → new.cluster ≡ or_else old.cluster (value_of (cluster_in (words_in line)))
    → ((label : List ℕ) → value_in new.versions label ≡ or_else (value_in old.versions label) (labelled label (words_in line)))
    → Stands (before ++ line ∷ []) new
unfolding cluster_of version_of
stands_more before line old new stands cluster versions = record {
  cluster = cluster ∙ ap (λ o. or_else o (value_of (cluster_in (words_in line)))) stands.cluster ∙ sym (first_value-append _ before line);
  versions = λ i label. (versions label ∙ ap (λ f. or_else (f label) (labelled label (words_in line))) stands.versions ∙ sym (first_value-append _ before line)) i;
}

-- ---- a line that is passed over

neither : (b : Bool) → (o : Option VersionLine) → (if b then o else o) ≡ o
neither true o = refl
neither false o = refl

no_words : (line : List ℕ) → is_passed_over line ≡ true → words_in line ≡ []
unfolding words_in
no_words line passed = rw passed

pub passed_stands : (before : List (List ℕ)) (line : List ℕ) (reader : Reader) → is_passed_over line ≡ true → Stands before reader → Stands (before ++ line ∷ []) reader
unfolding cluster_in labelled form_in word_at
passed_stands before line reader passed stands =
    let none = no_words line passed in
    stands_more before line reader reader stands (rw none (or_none reader.cluster)) (λ label. rw none (or_none (value_in reader.versions label) ∙ ap (λ o. or_else (value_in reader.versions label) o) (sym (neither (has_word 1 label []) None))))

pub passed_meaning : (before : List (List ℕ)) (line : List ℕ) → is_utf8 line ≡ true → is_passed_over line ≡ true → meaning before line ≡ Ok None
unfolding meaning
passed_meaning before line utf8 passed = rw (utf8, passed)

-- a line that is no text
pub no_text : (before : List (List ℕ)) (line : List ℕ) → is_utf8 line ≡ false → meaning before line ≡ Err faults.NotUtf8
unfolding meaning
no_text before line utf8 = rw utf8

pub kept_words : (line : List ℕ) → is_passed_over line ≡ false → words_in line ≡ words_of line
unfolding words_in
kept_words line kept = rw kept

-- a line that isn't passed over
pub words_meaning : (before : List (List ℕ)) (line : List ℕ) (reader : Reader) → is_utf8 line ≡ true → is_passed_over line ≡ false → Stands before reader
    → meaning before line ≡ said_in reader.cluster (value_in reader.versions) (words_in line)
unfolding meaning
words_meaning before line reader utf8 passed stands = rw (utf8, passed, stands.cluster, stands.versions)

-- ---- the cluster's line

both : {A : Type 0} (a b : Bool) (r : Result A FaultKind) (kind : FaultKind) (v : A) → (if a && b then r else Err kind) ≡ Ok v → (a ≡ true) × (b ≡ true) × (r ≡ Ok v)
both true true r kind v e = (refl, refl, e)
both true false r kind v e = absurd cc
both false b r kind v e = absurd cc

opens : (words : List (List ℕ)) (cluster : ClusterLine) → cluster_in words ≡ Ok cluster → has_word 0 (codes "cluster") words ≡ true
unfolding cluster_in
opens words cluster e = (both _ _ _ _ _ e).0

unlabelled : (label : List ℕ) (words : List (List ℕ)) → version_by (form_in words) words ≡ None → labelled label words ≡ None
unfolding labelled
unlabelled label words none = rw none (neither _ None)

cluster_form : (words : List (List ℕ)) → has_word 0 (codes "cluster") words ≡ true → form_in words ≡ Some Cluster
unfolding form_in
cluster_form words is = rw is

pub cluster_took : (number : ℕ) (words : List (List ℕ)) (old : Reader) (cluster : ClusterLine) → old.cluster ≡ None → cluster_in words ≡ Ok cluster
    → (said : Option Line) × (said_in old.cluster (value_in old.versions) words ≡ Ok said) × Took number words said old (record { cluster = Some cluster; versions = old.versions; lines = old.lines })
cluster_took number words old cluster none is = (
  None,
  rw (none, is) refl,
  record {
    cluster = rw (none, is) refl;
    versions = λ label. rw (unlabelled label words (rw (cluster_form words (opens words cluster is)) refl)) (or_none _);
    lines = sym (append-nil _);
  },
)

-- ---- a version's line

missing : {A : Type 0} (o : Option A) → is_none o ≡ true → o ≡ None
missing None is = refl
missing (Some x) is = absurd cc

-- a label that is new and its version
defined : (version : List ℕ → Option VersionLine) (form : VersionForm) (words : List (List ℕ)) (line : VersionLine) → definition_in version form words ≡ Ok line → (version (word_at 1 words) ≡ None) × (version_in form words ≡ Ok line)
unfolding definition_in
defined version form words line is =
    let parts = both (is_label (word_at 1 words)) (is_none (version (word_at 1 words))) (version_in form words) faults.Name line is in
    (missing _ parts.1, parts.2)

labelled_as : (label : List ℕ) (words : List (List ℕ)) (form : VersionForm) (line : VersionLine) → form_in words ≡ Some (Version form) → version_in form words ≡ Ok line → labelled label words ≡ (if bytes_eq (word_at 1 words) label then Some line else None)
unfolding labelled
labelled_as label words form line is read = rw (is, read)

-- the table behind the line
one_more : (b : Bool) (old : Option VersionLine) (line : VersionLine) → (b ≡ true → old ≡ None) → (if b then Some line else old) ≡ or_else old (if b then Some line else None)
one_more true old line new = rw (new refl)
one_more false old line new = or_none old

new_label : (version : List ℕ → Option VersionLine) (label other : List ℕ) → version label ≡ None → bytes_eq label other ≡ true → version other ≡ None
new_label version label other none same = let is : label ≡ other = search (rules, bytes_eq-Decides) in ap version (sym is) ∙ none

pub version_took : (number : ℕ) (words : List (List ℕ)) (old new : Reader) (cluster : ClusterLine) (form : VersionForm) (line : VersionLine)
    → old.cluster ≡ Some cluster → form_in words ≡ Some (Version form) → definition_in (value_in old.versions) form words ≡ Ok line
    → new.cluster ≡ old.cluster → ((label : List ℕ) → value_in new.versions label ≡ (if bytes_eq (word_at 1 words) label then Some line else value_in old.versions label)) → new.lines.items ≡ old.lines.items
    → (said : Option Line) × (said_in old.cluster (value_in old.versions) words ≡ Ok said) × Took number words said old new
version_took number words old new cluster form line some is read same versions lines =
    let parts = defined _ form words line read in (
      None,
      rw (some, is, read) refl,
      record {
        cluster = same ∙ rw some refl;
        versions = λ label. versions label ∙ one_more _ _ line (new_label (value_in old.versions) (word_at 1 words) label parts.0) ∙ ap (λ o. or_else (value_in old.versions label) o) (sym (labelled_as label words form line is parts.1));
        lines = lines ∙ sym (append-nil _);
      },
    )

-- ---- another line

pub other_took : (number : ℕ) (words : List (List ℕ)) (old new : Reader) (cluster : ClusterLine) (form : LineForm) (line : Line)
    → old.cluster ≡ Some cluster → form_in words ≡ Some (Other form) → line_in cluster.names (value_in old.versions) form words ≡ Ok line
    → new.cluster ≡ old.cluster → new.versions ≡ old.versions → new.lines.items ≡ old.lines.items ++ (line, number) ∷ []
    → (said : Option Line) × (said_in old.cluster (value_in old.versions) words ≡ Ok said) × Took number words said old new
other_took number words old new cluster form line some is read same versions lines = (
  Some line,
  rw (some, is, read) refl,
  record {
    cluster = same ∙ rw some refl;
    versions = λ label. ap (λ table. value_in table label) versions ∙ or_none _ ∙ ap (λ o. or_else (value_in old.versions label) o) (sym (unlabelled label words (rw is refl)));
    lines = lines;
  },
)

-- ---- a line of words

pub words_taken : (before : List (List ℕ)) (line : List ℕ) (number : ℕ) (words : List (List ℕ)) (said : Option Line) (old new : Reader) → is_utf8 line ≡ true → is_passed_over line ≡ false → words_in line ≡ words
    → said_in old.cluster (value_in old.versions) words ≡ Ok said → Took number words said old new → Stands before old
    → (x : Option Line) × (meaning before line ≡ Ok x) × Stands (before ++ line ∷ []) new × (new.lines.items ≡ old.lines.items ++ numbered number (Ok x ∷ []))
words_taken before line number words said old new utf8 passed is reads took stands =
    (said, words_meaning before line old utf8 passed stands ∙ rw is reads, stands_more before line old new stands (rw is took.cluster) (λ label. rw is (took.versions label)), took.lines)

pub all_taken : (line : List ℕ) (number : ℕ) (words : List (List ℕ)) (old new : Reader) (r : Result (Unit {0}) FaultKind) → is_utf8 line ≡ true → is_passed_over line ≡ false → words_in line ≡ words
    → IfOk r (λ _. (said : Option Line) × (said_in old.cluster (value_in old.versions) words ≡ Ok said) × Took number words said old new)
    → IfOk r (λ _. (before : List (List ℕ)) → Stands before old → (x : Option Line) × (meaning before line ≡ Ok x) × Stands (before ++ line ∷ []) new × (new.lines.items ≡ old.lines.items ++ numbered number (Ok x ∷ [])))
all_taken line number words old new (Ok u) utf8 kept is took = λ before stands. words_taken before line number words took.0 old new utf8 kept is took.1 took.2 stands
all_taken line number words old new (Err kind) utf8 kept is took = took

pub all_faults : (line : List ℕ) (words : List (List ℕ)) (old : Reader) (r : Result (Unit {0}) FaultKind) → is_utf8 line ≡ true → is_passed_over line ≡ false → words_in line ≡ words
    → IfErr r (λ kind. kind ≢ faults.Memory → said_in old.cluster (value_in old.versions) words ≡ Err kind)
    → IfErr r (λ kind. (before : List (List ℕ)) → Stands before old → kind ≢ faults.Memory → meaning before line ≡ Err kind)
all_faults line words old (Ok u) utf8 kept is wrong = wrong
all_faults line words old (Err kind) utf8 kept is wrong = λ before stands other. words_meaning before line old utf8 kept stands ∙ rw is (wrong other)

-- a line for which memory is taken
pub all_formed : (line : List ℕ) (words : List (List ℕ)) (old : Reader) (r : Result (Unit {0}) FaultKind) → is_utf8 line ≡ true → words_in line ≡ words
    → IfErr r (λ kind. kind ≡ faults.Memory → has_form old.cluster words ≡ true)
    → IfErr r (λ kind. (before : List (List ℕ)) → Stands before old → kind ≡ faults.Memory → is_formed before line ≡ true)
unfolding is_formed
all_formed line words old (Ok u) utf8 is formed = formed
all_formed line words old (Err kind) utf8 is formed = λ before stands memory. rw (utf8, ← stands.cluster, is) (formed memory)

-- ---- a line that is read is formed

when : {A : Type 0} (test : Bool) (read : Result A FaultKind) (kind : FaultKind) (value : A) → (if test then read else Err kind) ≡ Ok value → test ≡ true
when true read kind value is = refl
when false read kind value is = absurd cc

known : (verb : Option Verb) (read : Verb → Result Line FaultKind) (line : Line) → or_fault faults.Words verb >>= read ≡ Ok line → is_some verb ≡ true
known (Some verb) read line is = refl
known None read line is = absurd cc

at_formed : (delivers settles : Bool) (names : List (List ℕ)) (version : List ℕ → Option VersionLine) (words : List (List ℕ)) (line : Line)
    → (if delivers then deliver_in words else if settles then settle_in words else member_line_in names version words) ≡ Ok line
    → (if delivers then length words == 4 else if settles then length words == 3 else is_some (verb_in words)) ≡ true
unfolding deliver_in settle_in member_line_in
at_formed true settles names version words line is = when _ _ _ _ is
at_formed false true names version words line is = when _ _ _ _ is
at_formed false false names version words line is = known (verb_in words) _ line is

pub read_formed : (names : List (List ℕ)) (version : List ℕ → Option VersionLine) (form : LineForm) (words : List (List ℕ)) (line : Line)
    → line_in names version form words ≡ Ok line → has_line_form form words ≡ true
unfolding line_in at_line_in
read_formed names version forms.At words line is = at_formed _ _ names version words line is
read_formed names version forms.Stop words line is = refl
read_formed names version forms.Save words line is = refl
read_formed names version forms.Lose words line is = refl
read_formed names version forms.Timely words line is = refl
read_formed names version forms.Frames words line is = refl

pub other_formed : (cluster : Option ClusterLine) (found : ClusterLine) (form : LineForm) (words : List (List ℕ)) → cluster ≡ Some found
    → form_in words ≡ Some (Other form) → has_line_form form words ≡ true → has_form cluster words ≡ true
other_formed cluster found form words some is formed = rw (some, is) formed

pub whatever_is_told : {A : Type 0} (told : Result A FaultKind) (P : Type 0) → P → IfErr told (λ kind. kind ≡ faults.Memory → P)
whatever_is_told (Ok value) P holds = tt
whatever_is_told (Err kind) P holds = λ memory. holds
