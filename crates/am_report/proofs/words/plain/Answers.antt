use Rattle.std.proofs.Common.{◌∙◌}
use Rattle.am_report.proofs.Spelling.{encoded_is_spelled, spells_plain}
use Rattle.am_report.proofs.words.plain.Goals as goal

pub returns : goal.returns
returns c = c.percent_encode.ensures.text ∙ encoded_is_spelled _ _ spells_plain c.args.text.now
