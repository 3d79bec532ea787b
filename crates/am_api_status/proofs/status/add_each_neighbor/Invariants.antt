use Rattle.std.proofs.Common.{take, map}
use Rattle.am_silence_json.specs.Tokens.{Adds, row_tokens}
use Rattle.am_api_status.specs.Statuses.{neighbor_data}
use Rattle.am_api_status.proofs.status.add_each_neighbor.Given as goal

-- those so far are added
abbrev pub invariant-loop-neighbor : goal.invariant-loop-neighbor
invariant-loop-neighbor l = Adds l.initial.out l.out (row_tokens (map neighbor_data (take l.neighbor-index l.neighbors)))
