use Rattle.am_api_decisions.proofs.Digits.{hash_again}
use Rattle.am_api_decisions.proofs.laws.a_written_hash_is_read.Goals as goal

pub returns : goal.returns
returns c = hash_again
