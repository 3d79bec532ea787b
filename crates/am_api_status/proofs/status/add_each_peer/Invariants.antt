use Rattle.std.proofs.Common.{take, map}
use Rattle.am_silence_json.specs.Tokens.{Adds, row_tokens}
use Rattle.am_api_status.specs.Statuses.{peer_data}
use Rattle.am_api_status.proofs.status.add_each_peer.Given as goal

-- the members so far are added
abbrev pub invariant-loop-peer : goal.invariant-loop-peer
invariant-loop-peer l = Adds l.initial.out l.out (row_tokens (map peer_data (take l.peer-index l.peers)))
