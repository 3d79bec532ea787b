-- The rest of a text behind some lines.
use Rattle.std.proofs.Common.{◌≡◌, ℕ, ◌+◌, List, [], ◌∷◌, ◌++◌, length, Option, Some, None, Result, Ok, Err, refl, sym, ap, ◌<◌, ◌≤◌, arith, ◌∙◌, append_assoc, length-append}
use Rattle.std.proofs.lemmas.List.{append-nil}
use Rattle.am_schedule.specs.declared.error.FaultKind.{FaultKind}
use Rattle.am_schedule.specs.declared.error.ScheduleError.{ScheduleError}
use Rattle.am_schedule.specs.declared.step.Line.{Line}
use Rattle.am_schedule.specs.declared.schedule.Schedule.{Schedule}
use Rattle.am_schedule.specs.declared.reader.Reader.{Reader}
use Rattle.am_schedule.specs.Readers.{Stands}
use Rattle.am_schedule.specs.Schedules.{meaning, meanings, first_fault, AreSound, numbered, whole, cluster_of, schedule_by, schedule_in, schedule_of, lines_of}

-- the schedule of lines behind others
abbrev pub left_of : List (List ℕ) → List (Line × ℕ) → List (List ℕ) → Result Schedule ScheduleError
left_of before said lines =
    schedule_by (first_fault (length before + 1) (meanings before lines))
    (whole (cluster_of (before ++ lines)) (length (before ++ lines)) (said ++ numbered (length before + 1) (meanings before lines)))

pub all_left : (text : List ℕ) → left_of [] [] (lines_of text) ≡ schedule_of text
unfolding schedule_of schedule_in
all_left text = refl

-- the next line is at fault
pub fault_left : (before : List (List ℕ)) (said : List (Line × ℕ)) (line : List ℕ) (lines : List (List ℕ)) (kind : FaultKind) → meaning before line ≡ Err kind
    → left_of before said (line ∷ lines) ≡ Err (record { line = length before + 1; kind = kind })
fault_left before said line lines kind is = rw is

numbered-one : (number : ℕ) (x : Option Line) (said : List (Line × ℕ)) (more : List (Result (Option Line) FaultKind)) → said ++ numbered number (Ok x ∷ more) ≡ (said ++ numbered number (Ok x ∷ [])) ++ numbered (number + 1) more
numbered-one number None said more = simp append-nil
numbered-one number (Some line) said more = simp append_assoc

-- the next line is read
pub line_left : (before : List (List ℕ)) (said : List (Line × ℕ)) (line : List ℕ) (lines : List (List ℕ)) (x : Option Line) → meaning before line ≡ Ok x
    → left_of before said (line ∷ lines) ≡ left_of (before ++ line ∷ []) (said ++ numbered (length before + 1) (Ok x ∷ [])) lines
line_left before said line lines x is =
    let count : length (before ++ line ∷ []) ≡ length before + 1 = simp length-append in
    rw (is, count, append_assoc, numbered-one (length before + 1) x said) refl

-- no line is left
pub none_left : (before : List (List ℕ)) (said : List (Line × ℕ)) → left_of before said [] ≡ whole (cluster_of before) (length before) said
none_left before said = simp append-nil

-- ---- no fault so far

sound_by : (r : Result (Option Line) FaultKind) (number : ℕ) (before all : List (Result (Option Line) FaultKind))
    → (first_fault (number + 1) before ≡ None → first_fault (number + 1) all ≡ None) → first_fault number (r ∷ before) ≡ None → first_fault number (r ∷ all) ≡ None
sound_by (Ok x) number before all later sound = later sound
sound_by (Err kind) number before all later sound = absurd cc

-- a line more without a fault
sound_more : (number : ℕ) (done before : List (List ℕ)) (line : List ℕ) (x : Option Line) → meaning (done ++ before) line ≡ Ok x → first_fault number (meanings done before) ≡ None
    → first_fault number (meanings done (before ++ line ∷ [])) ≡ None
sound_more number done [] line x says sound = let here : meaning done line ≡ Ok x = simp append-nil at says in rw here refl
sound_more number done (y ∷ before) line x says sound =
    sound_by (meaning done y) number (meanings (done ++ y ∷ []) before) (meanings (done ++ y ∷ []) (before ++ line ∷ []))
    (sound_more (number + 1) (done ++ y ∷ []) before line x (rw append_assoc says)) sound

-- ---- a reader in a text

-- a reader behind some lines of a text, with the rest of it
pub record IsReading (text rest : List ℕ) (number : ℕ) (reader : Reader) : Type 0 where
  pub before : List (List ℕ)
  pub count : number ≡ length before
  pub stands : Stands before reader
  pub left : schedule_of text ≡ left_of before reader.lines.items (lines_of rest)
  pub parts : lines_of text ≡ before ++ lines_of rest
  pub sound : AreSound before
  pub room : number + length rest ≤ length text

pub at_start : (text : List ℕ) (reader : Reader) → Stands [] reader → reader.lines.items ≡ [] → IsReading text text 0 reader
at_start text reader stands none = record { before = []; count = refl; stands = stands; left = rw none (sym (all_left text)); parts = refl; sound = refl; room = omega arith }

pub at_fault : (text rest line behind : List ℕ) (number : ℕ) (reader : Reader) (kind : FaultKind) (reading : IsReading text rest number reader) → lines_of rest ≡ line ∷ lines_of behind
    → meaning reading.before line ≡ Err kind → schedule_of text ≡ Err (record { line = number + 1; kind = kind })
at_fault text rest line behind number reader kind reading is wrong =
    reading.left ∙ rw is (fault_left reading.before reader.lines.items line (lines_of behind) kind wrong ∙ rw reading.count refl)

pub behind_line : (text rest line behind : List ℕ) (number : ℕ) (old new : Reader) (x : Option Line) (reading : IsReading text rest number old) → lines_of rest ≡ line ∷ lines_of behind → length behind < length rest
    → meaning reading.before line ≡ Ok x → Stands (reading.before ++ line ∷ []) new → new.lines.items ≡ old.lines.items ++ numbered (number + 1) (Ok x ∷ [])
    → IsReading text behind (number + 1) new
behind_line text rest line behind number old new x reading is shorter says stands lines = record {
  before = reading.before ++ line ∷ [];
  count = ap (λ n. n + 1) reading.count ∙ sym (simp length-append);
  stands = stands;
  left = reading.left ∙ rw (is, lines, reading.count) (line_left reading.before old.lines.items line (lines_of behind) x says);
  parts = reading.parts ∙ rw (is, append_assoc) refl;
  sound = sound_more 1 [] reading.before line x says reading.sound;
  room = omega (arith, reading.room);
}

pub at_end : (text rest : List ℕ) (number : ℕ) (reader : Reader) → IsReading text rest number reader → lines_of rest ≡ [] → schedule_of text ≡ whole reader.cluster number reader.lines.items
at_end text rest number reader reading is = reading.left ∙ rw (is, reading.count, reading.stands.cluster) (none_left reading.before reader.lines.items)
