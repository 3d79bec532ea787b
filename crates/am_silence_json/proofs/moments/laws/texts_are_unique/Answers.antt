use Rattle.am_silence_json.proofs.One.{one_text}
use Rattle.am_silence_json.proofs.moments.laws.texts_are_unique.Goals as goal

pub returns : goal.returns
returns c = one_text
