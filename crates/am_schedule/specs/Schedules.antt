-- The meaning of a text, line by line.
use Rattle.std.specs.Prelude.{◌≡◌, ℕ, ◌+◌, Bool, true, List, [], ◌∷◌, ◌++◌, length, Option, Some, None, Result, Ok, Err}
use Rattle.std.specs.Prelude.{is_none, ◌&&◌, ◌==◌, if◌then◌else◌}
use Rattle.std.specs.List.{slice_split}
use Rattle.std.specs.Str.{is_utf8}
use Rattle.am_schedule.specs.declared.error.FaultKind.{FaultKind}
use Rattle.am_schedule.specs.declared.error.FaultKind.TheVariants as faults
use Rattle.am_schedule.specs.declared.error.ScheduleError.{ScheduleError}
use Rattle.am_schedule.specs.declared.cluster.ClusterLine.{ClusterLine}
use Rattle.am_schedule.specs.declared.form.VersionForm.{VersionForm}
use Rattle.am_schedule.specs.declared.form.Form.{Form}
use Rattle.am_schedule.specs.declared.form.Form.TheVariants.{Cluster, Version, Other}
use Rattle.am_schedule.specs.declared.step.VersionLine.{VersionLine}
use Rattle.am_schedule.specs.declared.step.Line.{Line}
use Rattle.am_schedule.specs.declared.schedule.Schedule.{Schedule}
use Rattle.am_schedule.specs.Readings.{◌>>=◌, or_fault, or_else}
use Rattle.am_schedule.specs.Words.{words_of, word_at, has_word}
use Rattle.am_schedule.specs.Forms.{form_in, has_form_by}
use Rattle.am_schedule.specs.Labels.{is_label}
use Rattle.am_schedule.specs.VersionLines.{version_in}
use Rattle.am_schedule.specs.StepLines.{line_in}
use Rattle.am_schedule.specs.Clusters.{has_cluster_form, cluster_in}

-- the part after the last line feed, unless it is empty
abbrev pub unless_empty : List ℕ → List (List ℕ)
unless_empty [] = []
unless_empty (byte ∷ bytes) = (byte ∷ bytes) ∷ []

-- the parts of a text without an empty last one
abbrev pub without_empty_last : List (List ℕ) → List (List ℕ)
without_empty_last [] = []
without_empty_last (part ∷ []) = unless_empty part
without_empty_last (part ∷ next ∷ parts) = part ∷ without_empty_last (next ∷ parts)

-- lines end with a line feed, which the last one may lack
unfoldable pub lines_of : List ℕ → List (List ℕ)
lines_of text = without_empty_last (slice_split (λ b. b == 10) text)

-- empty lines and lines that begin with `#` are skipped
abbrev pub is_passed_over : List ℕ → Bool
is_passed_over [] = true
is_passed_over (byte ∷ bytes) = byte == 35

-- the words of a line that isn't skipped
unfoldable pub words_in : List ℕ → List (List ℕ)
words_in line = if is_passed_over line then [] else words_of line

-- the value that was read, if nothing is at fault
abbrev pub value_of : {A : Type 0} → Result A FaultKind → Option A
value_of (Ok x) = Some x
value_of (Err kind) = None

-- the first value that is found
abbrev pub first_value : {A B : Type 0} → (A → Option B) → List A → Option B
first_value value [] = None
first_value value (x ∷ xs) = or_else (value x) (first_value value xs)

-- ---- the lines before a line

-- the cluster of the first correct cluster line
unfoldable pub cluster_of : List (List ℕ) → Option ClusterLine
cluster_of lines = first_value (λ line. value_of (cluster_in (words_in line))) lines

-- the version of a line of this form, if the line is one
abbrev pub version_by : Option Form → List (List ℕ) → Option VersionLine
version_by None words = None
version_by (Some Cluster) words = None
version_by (Some (Version form)) words = value_of (version_in form words)
version_by (Some (Other form)) words = None

-- the version that a line gives a label
unfoldable pub labelled : List ℕ → List (List ℕ) → Option VersionLine
labelled label words = if has_word 1 label words then version_by (form_in words) words else None

-- the version that lines give a label
unfoldable pub version_of : List (List ℕ) → List ℕ → Option VersionLine
version_of lines label = first_value (λ line. labelled label (words_in line)) lines

-- ---- what a line says

-- a line that gives a version a label, which has to be a new one
unfoldable pub definition_in : (List ℕ → Option VersionLine) → VersionForm → List (List ℕ) → Result VersionLine FaultKind
definition_in version form words =
    if is_label (word_at 1 words) && is_none (version (word_at 1 words)) then version_in form words else Err faults.Name

-- a line after the cluster's
abbrev pub line_said : List (List ℕ) → (List ℕ → Option VersionLine) → Form → List (List ℕ) → Result (Option Line) FaultKind
line_said names version Cluster words = Err faults.Cluster
line_said names version (Version form) words = definition_in version form words >>= λ _. Ok None
line_said names version (Other form) words = line_in names version form words >>= λ line. Ok (Some line)

-- a line that isn't skipped; the first one is the cluster's
abbrev pub said_in : Option ClusterLine → (List ℕ → Option VersionLine) → List (List ℕ) → Result (Option Line) FaultKind
said_in None version words = cluster_in words >>= λ _. Ok None
said_in (Some cluster) version words = or_fault faults.Words (form_in words) >>= λ form. line_said cluster.names version form words

-- the meaning of a line after other lines: a step or another line of the schedule, or nothing of its own
unfoldable pub meaning : List (List ℕ) → List ℕ → Result (Option Line) FaultKind
meaning before line =
    if is_utf8 line
    then (if is_passed_over line then Ok None else said_in (cluster_of before) (version_of before) (words_in line))
    else Err faults.NotUtf8

-- true if a line that isn't skipped has a known verb, and as many words as that needs; the first one is the cluster's
abbrev pub has_form : Option ClusterLine → List (List ℕ) → Bool
has_form None words = has_cluster_form words
has_form (Some cluster) words = has_form_by (form_in words) words

-- true if a line is UTF-8 with a known verb and as many words as that needs: no memory is taken for any other line
unfoldable pub is_formed : List (List ℕ) → List ℕ → Bool
is_formed before line = is_utf8 line && has_form (cluster_of before) (words_in line)

-- the meaning of each line
abbrev pub meanings : List (List ℕ) → List (List ℕ) → List (Result (Option Line) FaultKind)
meanings before [] = []
meanings before (line ∷ lines) = meaning before line ∷ meanings (before ++ line ∷ []) lines

-- ---- the whole

-- the first fault, with lines counted from a number on
abbrev pub first_fault : {A : Type 0} → ℕ → List (Result A FaultKind) → Option ScheduleError
first_fault number [] = None
first_fault number (Ok x ∷ more) = first_fault (number + 1) more
first_fault number (Err kind ∷ more) = Some (record { line = number; kind = kind })

-- no line is at fault
abbrev pub AreSound : List (List ℕ) → Type 0
AreSound lines = first_fault 1 (meanings [] lines) ≡ None

-- a line of the text by its number, with no line at fault before it
pub record IsReached (text : List ℕ) (number : ℕ) : Type 0 where
  pub before : List (List ℕ)
  pub line : List ℕ
  pub behind : List (List ℕ)
  pub parts : lines_of text ≡ before ++ line ∷ behind
  pub counted : number ≡ length before + 1
  pub sound : AreSound before

-- a line of the text by its number, whose bytes, verb and number of words are right
pub record IsFormedAt (text : List ℕ) (number : ℕ) : Type 0 where
  pub before : List (List ℕ)
  pub line : List ℕ
  pub behind : List (List ℕ)
  pub parts : lines_of text ≡ before ++ line ∷ behind
  pub counted : number ≡ length before + 1
  pub formed : is_formed before line ≡ true

-- the lines of the schedule, with their numbers
abbrev pub numbered : ℕ → List (Result (Option Line) FaultKind) → List (Line × ℕ)
numbered number [] = []
numbered number (Ok (Some line) ∷ more) = (line, number) ∷ numbered (number + 1) more
numbered number (Ok None ∷ more) = numbered (number + 1) more
numbered number (Err kind ∷ more) = numbered (number + 1) more

-- lines with no fault; if there is no cluster line among them, it is missing at the line after the last
abbrev pub whole : Option ClusterLine → ℕ → List (Line × ℕ) → Result Schedule ScheduleError
whole None count lines = Err (record { line = count + 1; kind = faults.Cluster })
whole (Some cluster) count lines =
    Ok (record { names = cluster.names; retention = cluster.retention; peer_timeout = cluster.peer_timeout; lines = lines })

-- the first fault, if there is one, or else the schedule
abbrev pub schedule_by : Option ScheduleError → Result Schedule ScheduleError → Result Schedule ScheduleError
schedule_by None schedule = schedule
schedule_by (Some error) schedule = Err error

-- the schedule of lines, or the first line at fault
unfoldable pub schedule_in : List (List ℕ) → Result Schedule ScheduleError
schedule_in lines = schedule_by (first_fault 1 (meanings [] lines))
    (whole (cluster_of lines) (length lines) (numbered 1 (meanings [] lines)))

-- the schedule of a text, or the first line at fault
unfoldable pub schedule_of : List ℕ → Result Schedule ScheduleError
schedule_of text = schedule_in (lines_of text)
