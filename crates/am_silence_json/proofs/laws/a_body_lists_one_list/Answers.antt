use Rattle.am_silence_json.proofs.OneList.{one_list}
use Rattle.am_silence_json.proofs.laws.a_body_lists_one_list.Goals as goal

pub returns : goal.returns
returns c = one_list
