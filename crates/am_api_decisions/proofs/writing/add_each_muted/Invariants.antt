use Rattle.std.proofs.Common.{take, map}
use Rattle.am_silence_json.specs.Tokens.{Adds, row_tokens}
use Rattle.am_api_decisions.specs.Answers.{muted_data}
use Rattle.am_api_decisions.proofs.writing.add_each_muted.Given as goal

-- the alerts so far are added
abbrev pub invariant-loop-muted : goal.invariant-loop-muted
invariant-loop-muted l = Adds l.initial.out l.out (row_tokens (map muted_data (take l.muted-index l.alerts)))
