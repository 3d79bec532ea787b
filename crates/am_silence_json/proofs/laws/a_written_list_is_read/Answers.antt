use Rattle.am_silence_json.proofs.ListAgain.{written_list}
use Rattle.am_silence_json.proofs.laws.a_written_list_is_read.Goals as goal

pub returns : goal.returns
returns c = written_list
