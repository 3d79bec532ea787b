use Rattle.am_silence_json.proofs.RoundTrip.{texts_read}
use Rattle.am_silence_json.proofs.moments.laws.reads_again.Goals as goal

pub returns : goal.returns
returns c =
    let again = rw (← c.as_str.ensures) at (texts_read _ _ c.write_moment-text.ensures) in c.read_moment.ensures.only _ again
