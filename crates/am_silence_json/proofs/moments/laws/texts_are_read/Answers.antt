use Rattle.am_silence_json.proofs.RoundTrip.{texts_read}
use Rattle.am_silence_json.proofs.moments.laws.texts_are_read.Goals as goal

pub returns : goal.returns
returns c = texts_read
