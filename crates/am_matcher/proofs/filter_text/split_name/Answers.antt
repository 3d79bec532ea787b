use Rattle.std.proofs.Common.{rules}
use Rattle.am_matcher.proofs.Runs.{run_of}
use Rattle.am_matcher.proofs.filter_text.split_name.Goals as goal

pub returns-then-begins_name : goal.returns-then-begins_name
returns-then-begins_name c = (search rules, rw (c.split_at.ensures.front, c.split_at.ensures.back) (run_of _ c.args.characters.now _ c.name_len.ensures))
