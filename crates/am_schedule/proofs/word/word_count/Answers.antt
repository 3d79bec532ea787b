use Rattle.std.proofs.Common.{lit<}
use Rattle.std.proofs.lemmas.Iterator.Consumers.{count_from_yields_List}
use Rattle.std.proofs.lemmas.Iterator.Splits.{YieldsList-from_str_split}
use Rattle.am_schedule.specs.Words.{words_of}
use Rattle.am_schedule.proofs.word.word_count.Goals as goal

pub returns : goal.returns
unfolding words_of
returns c = count_from_yields_List c.split.result _ c.count.ensures.ran (YieldsList-from_str_split 32 c.args.line.now (lit< tt) c.split.ensures.text c.split.ensures.has_more c.split.ensures.pattern)
