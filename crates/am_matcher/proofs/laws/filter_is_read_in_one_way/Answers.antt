use Rattle.am_matcher.proofs.FilterTexts.{filter_once}
use Rattle.am_matcher.proofs.laws.filter_is_read_in_one_way.Goals as goal

pub returns : goal.returns
returns c = filter_once
