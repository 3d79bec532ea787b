use Rattle.std.proofs.Common.{◌≡◌, map, take}
use Rattle.am_commands.specs.Folding.{named_file}
use Rattle.am_commands.specs.Opening.{named_of}
use Rattle.am_commands.proofs.fold.words_of.Given as goal

-- the files so far are named
abbrev pub invariant-loop-file : goal.invariant-loop-file
invariant-loop-file l = map named_of l.words.items ≡ map (λ f. named_file f.now) (take l.file-index l.files)
