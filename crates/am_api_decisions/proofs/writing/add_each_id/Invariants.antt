use Rattle.std.proofs.Common.{take, map}
use Rattle.serde_json.specs.Data.{string}
use Rattle.am_silence_json.specs.Tokens.{Adds, row_tokens}
use Rattle.am_api_decisions.proofs.writing.add_each_id.Given as goal

-- the identifiers so far are added
abbrev pub invariant-loop-id : goal.invariant-loop-id
invariant-loop-id l = Adds l.initial.out l.out (row_tokens (map string (take l.id-index l.ids)))
