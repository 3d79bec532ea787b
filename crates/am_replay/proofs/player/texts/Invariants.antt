use Rattle.std.proofs.Common.{◌≡◌, take}
use Rattle.am_replay.proofs.player.texts.Given as goal

abbrev pub invariant-loop-word : goal.invariant-loop-word
invariant-loop-word l = l.texts.items ≡ take l.word-index l.words
