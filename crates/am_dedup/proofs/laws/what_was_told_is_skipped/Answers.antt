use Rattle.am_dedup.proofs.Decides.{told}
use Rattle.am_dedup.proofs.laws.what_was_told_is_skipped.Goals as goal

pub returns : goal.returns
returns c = told
