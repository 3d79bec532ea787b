use Rattle.std.proofs.Common.{take}
use Rattle.am_matcher.proofs.Runs.{run_of}
use Rattle.am_matcher.proofs.filter_text.skip_blanks.Goals as goal

pub returns : goal.returns
returns c =
    let cs = c.args.characters.now in
    (take c.blanks_at_front.result cs, rw c.split_at.ensures.back (run_of _ cs _ c.blanks_at_front.ensures))
