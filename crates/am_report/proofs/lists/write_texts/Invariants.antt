use Rattle.std.proofs.Common.{take}
use Rattle.std.specs.Fmt.{HasWritten, IsPlainFormatter}
use Rattle.am_report.specs.Words.{listed_word_of}
use Rattle.am_report.specs.Lists.{behind_commas}
use Rattle.am_report.proofs.lists.write_texts.Given as goal

abbrev pub invariant-loop-text : goal.invariant-loop-text
invariant-loop-text g l =
    IsPlainFormatter l.initial.f → HasWritten g.W.Write.write_str_gives l.initial.f (behind_commas listed_word_of (take l.text-index l.texts)) l.f
