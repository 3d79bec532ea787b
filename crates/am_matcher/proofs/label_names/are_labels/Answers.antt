use Rattle.std.proofs.Common.{◌∙◌, ap}
use Rattle.am_matcher.specs.Dialects.{is_label}
use Rattle.am_matcher.proofs.Meant.{are_labels-first}
use Rattle.am_matcher.proofs.label_names.are_labels.Goals as goal

pub loop-matcher-preserved : goal.loop-matcher-preserved
loop-matcher-preserved c =
    let name = c.as_bytes.ensures.value ∙ c.name.ensures in
    are_labels-first c.in-Some.ensures.steps c.loop-matcher.all _ (c.is_label-all.ensures ∙ ap is_label name)
    ∙ c.loop-matcher.invariant
