use Rattle.std.proofs.Common.{refl, sym, ap, ◌∙◌}
use Rattle.am_report.specs.Words.{word_of, listed_word_of, text_of_word, is_plain, is_plain_in_list}
use Rattle.am_report.proofs.Reading.{word_read}
use Rattle.am_report.proofs.word_laws.a_word_is_read_in_one_way.Goals as goal

pub returns-clause-read : goal.returns-clause-read
unfolding word_of
returns-clause-read c = word_read is_plain refl

pub returns-clause-listed : goal.returns-clause-listed
unfolding listed_word_of
returns-clause-listed c = word_read is_plain_in_list refl

pub returns-clause-own : goal.returns-clause-own
unfolding word_of
returns-clause-own c = λ text other bytes others same.
    sym (word_read is_plain refl text bytes) ∙ ap text_of_word same ∙ word_read is_plain refl other others

pub returns-clause-own_in_list : goal.returns-clause-own_in_list
unfolding listed_word_of
returns-clause-own_in_list c = λ text other bytes others same.
    sym (word_read is_plain_in_list refl text bytes) ∙ ap text_of_word same ∙ word_read is_plain_in_list refl other others
