use Rattle.am_api_decisions.proofs.EntryRows.{line_text}
use Rattle.am_api_decisions.proofs.entries.end_list.Goals as goal

pub returns : goal.returns
returns c = λ rows written. line_text rows _ _ _ written c.in_ok-add.ensures c.in_ok-line.ensures
