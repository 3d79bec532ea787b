-- Searches for the row of a state, in stretches.
use Rattle.std.specs.Prelude.{ℕ, List, drop, Option, Result, Ok}
use Rattle.am_gossip.specs.Parts.{parts_fit}
use Rattle.am_wire.specs.Fields.{fields_of}
use Rattle.am_memberlist.specs.declared.error.AnswerError.{AnswerError}
use Rattle.am_memberlist.specs.declared.searching.RowSearch.{RowSearch}
use Rattle.am_memberlist.specs.declared.searching.SearchStretch.{SearchStretch}
use Rattle.am_memberlist.specs.declared.searching.SearchStretch.TheVariants.{Found, Left}
use Rattle.am_memberlist.specs.Rows.{row_of_fields}
use Rattle.am_memberlist.specs.Seen.{row_owned}

-- the row that a search finds in a full state if it goes on to the end
unfoldable pub row_from : List ℕ → RowSearch → Result (Option (List ℕ)) AnswerError
row_from states search = row_of_fields search.key (row_owned search.found) (fields_of parts_fit search.at (drop search.at states))

-- the row that is found, or will be after a stretch
abbrev pub row_after : List ℕ → SearchStretch → Result (Option (List ℕ)) AnswerError
row_after states (Found row) = Ok (row_owned row)
row_after states (Left search) = row_from states search
