use Rattle.std.proofs.Common.{◌-◌, length, drop, reverse}
use Rattle.am_matcher.proofs.Runs.{run_at_end}
use Rattle.am_matcher.proofs.filter_text.drop_blanks.Goals as goal

pub returns : goal.returns
returns c =
    let cs = c.args.characters.now in
    (reverse (drop (length cs - c.blanks_at_end.result) cs), rw c.split_at.ensures.front (run_at_end _ cs _ c.blanks_at_end.ensures))
