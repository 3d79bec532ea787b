use Rattle.std.proofs.Common.{◌≡◌, length, take}
use Rattle.std.specs.List.{AllZip}
use Rattle.am_commands.specs.Opening.{IsOpened, wanted_by}
use Rattle.am_commands.proofs.source.inputs_of.Given as goal

-- the sources so far are opened
abbrev pub invariant-loop-word : goal.invariant-loop-word
invariant-loop-word g l =
    AllZip (IsOpened (goal.F-post g l.source_of) (wanted_by l.words l.has_logs l.reading)) (take l.word-index l.words) l.inputs.items × (length l.inputs.items ≡ l.word-index)
