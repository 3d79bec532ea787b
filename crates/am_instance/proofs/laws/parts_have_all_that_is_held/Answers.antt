use Rattle.am_instance.proofs.AllHandedOut.{all_from_start}
use Rattle.am_instance.proofs.laws.parts_have_all_that_is_held.Goals as goal

pub returns-clause-silences : goal.returns-clause-silences
returns-clause-silences c most silences log parts ids keys out = (all_from_start most silences log c.a_map_goes_on_from_a_key.ensures c.a_map_goes_on_from_a_key-2.ensures ids keys parts out).of_silences

pub returns-clause-log : goal.returns-clause-log
returns-clause-log c most silences log parts ids keys out = (all_from_start most silences log c.a_map_goes_on_from_a_key.ensures c.a_map_goes_on_from_a_key-2.ensures ids keys parts out).of_log
