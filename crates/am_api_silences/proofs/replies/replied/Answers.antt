use Rattle.am_api_silences.proofs.replies.replied.Goals as goal

pub returns-in-Silence : goal.returns-in-Silence
returns-in-Silence c = rw c.in-Silence.is c.one.ensures
