use Rattle.std.proofs.Common.{◌≡◌, take, map, Some}
use Rattle.am_silence_json.proofs.EachMatcher.{seen}
use Rattle.am_silence_json.proofs.matchers.read_each.Given as goal

-- the values so far are these matchers
abbrev pub invariant-loop-value : goal.invariant-loop-value
invariant-loop-value l = map seen (take l.value-index l.values) ≡ map Some l.matchers.items
