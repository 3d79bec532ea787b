use Rattle.std.proofs.Common.{map, take}
use Rattle.am_silence_json.specs.Tokens.{Adds, row_tokens}
use Rattle.am_report.specs.Json.Values.{entry_data}
use Rattle.am_api_decisions.proofs.entries.add_entries.Given as goal

-- the entries so far are added
abbrev pub invariant-loop-entry : goal.invariant-loop-entry
invariant-loop-entry l = Adds l.initial.out l.out (row_tokens (map entry_data (take l.entry-index l.rows)))
