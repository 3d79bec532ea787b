use Rattle.am_silence_json.proofs.shown.cut_in.Goals as goal

pub returns-in-None-clause-none : goal.returns-in-None-clause-none
returns-in-None-clause-none c = λ _ m h. cc (c.in-None.ensures.only m h)
