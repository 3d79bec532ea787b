-- The rows of both states in what a replica told.
use Rattle.std.specs.Prelude.{ℕ, List, Option, Some, None, Result, Ok, Err, Vec}
use Rattle.std.specs.declared.alloc.Global.{Global}
use Rattle.am_gossip.specs.declared.frame.StateKey.{StateKey}
use Rattle.am_gossip.specs.declared.frame.StateKey.TheVariants.{Sil, Nfl}
use Rattle.am_memberlist.specs.declared.error.AnswerError.{AnswerError}
use Rattle.am_memberlist.specs.declared.error.AnswerError.TheVariants.{Error, NoState}
use Rattle.am_memberlist.specs.Answers.{◌>>=◌}
use Rattle.am_memberlist.specs.Messages.{SaidAt, message_in}
use Rattle.am_memberlist.specs.Messages.SaidAt.{states, error}
use Rattle.am_memberlist.specs.Rows.{row_in}
use Rattle.am_memberlist.specs.Searches.{row_from}
use Rattle.am_memberlist.specs.declared.searching.RowSearch.{RowSearch}
use Rattle.am_alertmanager.specs.declared.told.Telling.{Telling}
use Rattle.am_alertmanager.specs.declared.told.Telling.TheVariants as tellings
use Rattle.am_alertmanager.specs.declared.told.ToldRows.{ToldRows}

-- a row that has to be there
abbrev pub there : Option (List ℕ) → Result (List ℕ) AnswerError
there (Some row) = Ok row
there None = Err NoState

-- the row that the code returns, regardless of its place in memory
abbrev pub row_there : Result (Vec ℕ Global) AnswerError → Result (List ℕ) AnswerError
row_there (Ok row) = Ok row.items
row_there (Err e) = Err e

-- the row of a state
abbrev pub row_told : StateKey → List ℕ → Result (List ℕ) AnswerError
row_told key whole = row_in key whole >>= there

-- the rows of both states, silences first
abbrev pub rows_in : List ℕ → Result (List ℕ × List ℕ) AnswerError
rows_in whole = row_told Sil whole >>= λ silences. row_told Nfl whole >>= λ entries. Ok (silences, entries)

-- the rows of both states in what was said
abbrev pub rows_said : SaidAt → Result (List ℕ × List ℕ) AnswerError
rows_said (states bytes) = rows_in bytes
rows_said (error words) = Err Error

-- the rows of both states in a message
abbrev pub rows_told : List ℕ → Result (List ℕ × List ℕ) AnswerError
rows_told message = message_in message >>= rows_said

-- the rows that the code returns, regardless of their place in memory
abbrev pub rows_seen : ToldRows → List ℕ × List ℕ
rows_seen told = (told.silences.items, told.entries.items)

-- the rows of both states that are found by searching on for the silences in these states
abbrev pub silences_left : List ℕ → RowSearch → Result (List ℕ × List ℕ) AnswerError
silences_left whole search = (row_from whole search >>= there) >>= λ silences. row_told Nfl whole >>= λ entries. Ok (silences, entries)

-- the rows of both states that are found by searching on for the log in these states, with these silences
abbrev pub entries_left : List ℕ → RowSearch → List ℕ → Result (List ℕ × List ℕ) AnswerError
entries_left whole search silences = (row_from whole search >>= there) >>= λ entries. Ok (silences, entries)

-- the rows of both states that are found by searching on
abbrev pub rows_left : Telling → Result (List ℕ × List ℕ) AnswerError
rows_left (tellings.Silences whole search) = silences_left whole.items search
rows_left (tellings.Entries whole search silences) = entries_left whole.items search silences.items
rows_left (tellings.Found told) = Ok (rows_seen told)
