use Rattle.std.proofs.Common.{take}
use Rattle.std.specs.List.{flat_map}
use Rattle.am_silence_json.specs.Tokens.{Adds}
use Rattle.am_api_decisions.specs.Answers.{label_tokens}
use Rattle.am_api_decisions.proofs.writing.add_each_label.Given as goal

-- the labels so far are added
abbrev pub invariant-loop-label : goal.invariant-loop-label
invariant-loop-label l = Adds l.initial.out l.out (flat_map label_tokens (take l.label-index l.labels))
