use Rattle.std.proofs.Common.{◌∙◌}
use Rattle.am_report.proofs.Spelling.{encoded_is_spelled, spells_plain_at_end}
use Rattle.am_report.proofs.words.plain_at_end.Goals as goal

pub returns : goal.returns
returns c = c.percent_encode.ensures.text ∙ encoded_is_spelled _ _ spells_plain_at_end c.args.text.now
