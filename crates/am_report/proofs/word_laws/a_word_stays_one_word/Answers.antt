use Rattle.am_report.specs.Words.{word_of, listed_word_of}
use Rattle.am_report.proofs.Reading.{glyphs, listed_glyphs, no_comma}
use Rattle.am_report.proofs.word_laws.a_word_stays_one_word.Goals as goal

pub returns-clause-glyphs : goal.returns-clause-glyphs
unfolding word_of
returns-clause-glyphs c = glyphs

pub returns-clause-listed_glyphs : goal.returns-clause-listed_glyphs
unfolding listed_word_of
returns-clause-listed_glyphs c = listed_glyphs

pub returns-clause-no_comma : goal.returns-clause-no_comma
unfolding listed_word_of
returns-clause-no_comma c = no_comma
