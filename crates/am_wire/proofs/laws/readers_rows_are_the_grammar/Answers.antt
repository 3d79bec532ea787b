use Rattle.am_wire.proofs.Broken.{whole_row_found, whole_row_read, cut_row_found, cut_row_read}
use Rattle.am_wire.proofs.laws.readers_rows_are_the_grammar.Goals as goal

pub returns-clause-row : goal.returns-clause-row
returns-clause-row c = λ at bytes message. (whole_row_found bytes at message, whole_row_read bytes at message)

pub returns-clause-cut : goal.returns-clause-cut
returns-clause-cut c = λ at bytes. (cut_row_found bytes at, cut_row_read bytes at)
