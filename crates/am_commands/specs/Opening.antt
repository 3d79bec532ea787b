-- Sources that are opened as a job names them, the place where that stops, and how a command on them ends.
-- S is the type of sources, and `opens` says what opening a source that is asked for may give.
use Rattle.std.specs.Prelude.{◌≡◌, ℕ, ◌<◌, Bool, List, length, take, map, Result, Ok, Err, ◌⊎◌}
use Rattle.std.specs.List.{AllZip, slice_index_or}
use Rattle.am_options.specs.declared.source.SourceWord.{SourceWord}
use Rattle.am_snapshot.specs.declared.error.SnapshotError.TheVariants.{Memory}
use Rattle.am_commands.specs.Statuses.{stopped_status}
use Rattle.am_commands.specs.declared.fault.SourceFault.{SourceFault}
use Rattle.am_commands.specs.declared.fault.Stopped.{Stopped}
use Rattle.am_commands.specs.declared.fault.Stopped.TheVariants as stopped
use Rattle.am_commands.specs.declared.opened.SourceRequest.{SourceRequest}
use Rattle.am_commands.specs.declared.opened.ReadOptions.{ReadOptions}
use Rattle.am_commands.specs.declared.source.Input.{Input}

-- a source as it is named: its name, and its path or its address
pub record Named : Type 0 where
  pub name : List ℕ
  pub file : List ℕ

-- the source that a word names
abbrev pub named_of : SourceWord → Named
named_of word = record { name = word.name.now; file = word.file.now }

-- the sources that a job wants: their names in order, and the way in which each is read
pub record Wanted : Type 0 where
  pub names : List Named
  pub has_logs : Bool
  pub reading : ReadOptions

-- the sources that these words name
abbrev pub wanted_by : List SourceWord → Bool → ReadOptions → Wanted
wanted_by words has_logs reading = record { names = map named_of words; has_logs = has_logs; reading = reading }

module _ {S : Type 0} (opens : SourceRequest → Result S SourceFault → Type 0) (wanted : Wanted) where
  -- the source that is asked for by a word
  abbrev pub request_of : SourceWord → SourceRequest
  request_of word = record { word = word; has_logs = wanted.has_logs; reading = wanted.reading }

  -- the input has the name of the word, and the source that opening it gave
  pub record IsOpened (word : SourceWord) (input : Input S) : Type 0 where
    pub name : input.name.now ≡ word.name.now
    pub source : opens (request_of word) (Ok input.source)

  -- the inputs are the sources that are wanted, in their order, each once
  pub record AreOpened (inputs : List (Input S)) : Type 0 where
    pub words : List SourceWord
    pub names : map named_of words ≡ wanted.names
    pub opened : AllZip IsOpened words inputs

  -- the source of that number is the first that isn't opened
  pub record IsFirstUnopened (number : ℕ) (fault : SourceFault) : Type 0 where
    pub words : List SourceWord
    pub names : map named_of words ≡ wanted.names
    pub inside : number < length words
    pub before : (inputs : List (Input S)) × AllZip IsOpened (take number words) inputs
    pub here : (d : SourceWord) → opens (request_of (slice_index_or words number d)) (Err fault)

  -- the first source that isn't opened; or memory ran out
  abbrev pub StopsOpening : Stopped → Type 0
  StopsOpening (stopped.Source number fault) = IsFirstUnopened number fault
  StopsOpening (stopped.Output e) = e ≡ Memory

  -- all sources were opened, and this came of them
  pub record ComesOf (Comes : List (Input S) → Type 0) : Type 0 where
    pub inputs : List (Input S)
    pub opened : AreOpened inputs
    pub came : Comes inputs

  -- a source isn't opened, and the writer is as it was; or all were opened, and it stops so
  abbrev pub StopsWanted : (List (Input S) → Stopped → Type 0) → {W : Type 0} → W → W → Stopped → Type 0
  StopsWanted stops old new at = (StopsOpening at × (new ≡ old)) ⊎ ComesOf (λ inputs. stops inputs at)

-- the status is that of a fault at which it stops so
abbrev pub EndsAt : (Stopped → Type 0) → ℕ → Type 0
EndsAt stops status = (fault : Stopped) × stops fault × (status ≡ stopped_status fault)
