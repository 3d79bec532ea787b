use Rattle.std.proofs.Common.{◌≡◌, ◌++◌, map}
use Rattle.am_silence_json.specs.Shown.{cut_to_shown}
use Rattle.am_peers.proofs.shown.cut_all.Given as goal

abbrev pub invariant-loop-version : goal.invariant-loop-version
invariant-loop-version l = l.list.items ++ map cut_to_shown l.version-iterator ≡ map cut_to_shown l.held
