-- The table of lines: the places after each verb, and what their values make.
use Rattle.std.specs.Prelude.{ℕ, ◌+◌, Bool, List, [], ◌∷◌, length, drop, Option, None, Result, Ok, ◌==◌, nat_le, ◌&&◌, codes}
use Rattle.am_schedule.specs.declared.error.FaultKind.{FaultKind}
use Rattle.am_schedule.specs.declared.form.Verb.{Verb}
use Rattle.am_schedule.specs.declared.form.Verb.TheVariants as verbs
use Rattle.am_schedule.specs.declared.step.Pair.{Pair}
use Rattle.am_schedule.specs.declared.step.VersionLine.{VersionLine}
use Rattle.am_schedule.specs.declared.step.Versions.{Versions}
use Rattle.am_schedule.specs.declared.step.SilenceLine.{SilenceLine}
use Rattle.am_schedule.specs.declared.step.LogLine.{LogLine}
use Rattle.am_schedule.specs.declared.step.PostLine.{PostLine}
use Rattle.am_schedule.specs.declared.step.GroupLine.{GroupLine}
use Rattle.am_schedule.specs.declared.step.LineEvent.{LineEvent}
use Rattle.am_schedule.specs.declared.step.LineEvent.TheVariants as events
use Rattle.am_schedule.specs.declared.step.Action.TheVariants as actions
use Rattle.am_schedule.specs.declared.step.Line.{Line}
use Rattle.am_schedule.specs.declared.step.Line.TheVariants as kinds
use Rattle.am_schedule.specs.Readings.{◌>>=◌}
use Rattle.am_schedule.specs.Words.{word_at, has_word}
use Rattle.am_schedule.specs.Lists.{pairs_in}
use Rattle.am_schedule.specs.Labels.{versions_in}
use Rattle.am_schedule.specs.Slots.{Slot, whole_moment, interval, number, bits, hashes, yes_or_no, member, text}
use Rattle.am_schedule.specs.Slots.{identifier, ValueOf, value_at}

-- ---- rows

-- the words after the places of a line
pub data Rest : Type 0 where
  nothing : Rest
  -- one or more labels
  labels : Rest
  -- one or more pairs
  pairs : Rest

-- a function of the words after the places
abbrev pub MakesOfRest : Rest → Type 0 → Type 0
MakesOfRest nothing R = R
MakesOfRest labels R = Versions → R
MakesOfRest pairs R = List Pair → R

-- a function of the values of places and of the words after them
abbrev pub Makes : List Slot → Rest → Type 0 → Type 0
Makes [] rest R = MakesOfRest rest R
Makes (slot ∷ slots) rest R = ValueOf slot → Makes slots rest R

-- a row of the table: the places from the left, the words after them, and what they all make
pub record Row (R : Type 0) : Type 0 where
  pub slots : List Slot
  pub rest : Rest
  pub makes : Makes slots rest R

-- the row of these parts
abbrev pub row : {R : Type 0} → (slots : List Slot) → (rest : Rest) → Makes slots rest R → Row R
row slots rest makes = record { slots = slots; rest = rest; makes = makes }

-- true if a line has as many words as a row needs
abbrev pub is_count : Rest → ℕ → ℕ → Bool
is_count nothing places count = count == places
is_count labels places count = nat_le (places + 1) count
is_count pairs places count = nat_le (places + 1) count

-- true if a line has as many words as a row needs, if the row's places begin at the word `first`
abbrev pub has_count : {R : Type 0} → ℕ → Row R → List (List ℕ) → Bool
has_count first row words = is_count row.rest (first + length row.slots) (length words)

-- ---- the rule of faults: word by word from the left, and the first word at fault decides

-- the result of the words after the places
abbrev pub rest_by : {R : Type 0} → (List ℕ → Option VersionLine) → (rest : Rest) → MakesOfRest rest R → List (List ℕ) → Result R FaultKind
rest_by version nothing makes words = Ok makes
rest_by version labels makes words = versions_in version words >>= λ versions. Ok (makes versions)
rest_by version pairs makes words = pairs_in words >>= λ pairs. Ok (makes pairs)

-- the result of the words from a place on
abbrev pub read_by : {R : Type 0} → List (List ℕ) → (List ℕ → Option VersionLine) → ℕ
    → (slots : List Slot) → (rest : Rest) → Makes slots rest R → List (List ℕ) → Result R FaultKind
read_by names version place [] rest makes words = rest_by version rest makes (drop place words)
read_by names version place (slot ∷ slots) rest makes words =
    value_at names slot (word_at place words) >>= λ value. read_by names version (place + 1) slots rest (makes value) words

-- the result of the words of a line by a row whose places begin at the word `first`; `names` are the members and `version`
-- knows the labels
abbrev pub by_row : {R : Type 0} → List (List ℕ) → (List ℕ → Option VersionLine) → ℕ → Row R → List (List ℕ) → Result R FaultKind
by_row names version first row words = read_by names version first row.slots row.rest row.makes words

-- no labels
abbrev pub no_version : List ℕ → Option VersionLine
no_version label = None

-- ---- the table

-- sil LABEL ID UPDATED STARTS ENDS EXPIRES NAME VALUE
abbrev pub silence_row : Row SilenceLine
silence_row = row (text ∷ whole_moment ∷ whole_moment ∷ whole_moment ∷ whole_moment ∷ text ∷ text ∷ []) nothing
    (λ id updated starts ends expires name value.
    record { id = id; updated = updated; starts = starts; ends = ends; expires = expires; name = name; value = value })

-- nfl LABEL GROUP RECEIVER UPDATED EXPIRES FIRING RESOLVED
abbrev pub log_row : Row LogLine
log_row = row (text ∷ text ∷ whole_moment ∷ whole_moment ∷ hashes ∷ hashes ∷ []) nothing
    (λ group receiver updated expires firing resolved.
    record { group = group; receiver = receiver; updated = updated; expires = expires; firing = firing; resolved = resolved })

-- ID BITS STARTS ENDS NAME VALUE
abbrev pub post_row : Row PostLine
post_row = row (identifier ∷ bits ∷ whole_moment ∷ whole_moment ∷ text ∷ text ∷ []) nothing
    (λ id bits starts ends name value.
    record { id = id; bits = bits; starts = starts; ends = ends; name = name; value = value })

-- GROUP RECEIVER FIRING RESOLVED REPEAT
abbrev pub group_row : Row GroupLine
group_row = row (text ∷ text ∷ hashes ∷ hashes ∷ interval ∷ []) nothing
    (λ group receiver firing resolved repeat.
    record { group = group; receiver = receiver; firing = firing; resolved = resolved; repeat = repeat })

-- at T NAME VERB ..: the words after the verb
abbrev pub event_row : Verb → Row LineEvent
event_row verbs.From = row (member ∷ []) labels (λ peer versions. events.From peer versions)
event_row verbs.Post = row (identifier ∷ bits ∷ whole_moment ∷ whole_moment ∷ text ∷ text ∷ []) nothing
    (λ id bits starts ends name value. events.Post (post_row.makes id bits starts ends name value))
event_row verbs.Expire = row (text ∷ []) nothing (λ id. events.Expire id)
event_row verbs.Notified = row (text ∷ text ∷ hashes ∷ hashes ∷ interval ∷ []) nothing
    (λ group receiver firing resolved repeat. events.Notified (group_row.makes group receiver firing resolved repeat))
event_row verbs.Decide = row (text ∷ text ∷ hashes ∷ hashes ∷ interval ∷ yes_or_no ∷ []) nothing
    (λ group receiver firing resolved repeat wanted. events.Decide (group_row.makes group receiver firing resolved repeat) wanted)
event_row verbs.Mutes = row [] pairs (λ labels. events.Mutes labels)
event_row verbs.Show = row [] nothing events.Show
event_row verbs.Tick = row [] nothing events.Tick
event_row verbs.Pull = row (member ∷ []) nothing (λ peer. events.Pull peer)
event_row verbs.Start = row [] nothing events.Start

-- the word of a verb
abbrev pub verb_word : Verb → List ℕ
verb_word verbs.From = codes "from"
verb_word verbs.Post = codes "post"
verb_word verbs.Expire = codes "expire"
verb_word verbs.Notified = codes "notified"
verb_word verbs.Decide = codes "decide"
verb_word verbs.Mutes = codes "mutes"
verb_word verbs.Show = codes "show"
verb_word verbs.Tick = codes "tick"
verb_word verbs.Pull = codes "pull"
verb_word verbs.Start = codes "start"

-- each verb, in the order in which the verbs are tried
abbrev pub all_verbs : List Verb
all_verbs =
    verbs.From ∷ verbs.Post ∷ verbs.Expire ∷ verbs.Notified ∷ verbs.Decide ∷ verbs.Mutes ∷ verbs.Show ∷ verbs.Tick ∷ verbs.Pull
    ∷ verbs.Start ∷ []

-- stop NAME
abbrev pub stop_row : Row Line
stop_row = row (member ∷ []) nothing (λ name. kinds.Step (actions.Stop name))

-- save NAME
abbrev pub save_row : Row Line
save_row = row (member ∷ []) nothing (λ name. kinds.Step (actions.Save name))

-- lose N
abbrev pub lose_row : Row Line
lose_row = row (number ∷ []) nothing (λ frame. kinds.Step (actions.Lose frame))

-- timely L F
abbrev pub timely_row : Row Line
timely_row = row (interval ∷ interval ∷ []) nothing (λ spread flight. kinds.Timely spread flight)

-- frames
abbrev pub frames_row : Row Line
frames_row = row [] nothing kinds.Frames

-- a line of a row begins with its word, and has as many words as the row needs
abbrev pub is_line : {R : Type 0} → List ℕ → ℕ → Row R → List (List ℕ) → Bool
is_line verb first row words = has_word 0 verb words && has_count first row words
