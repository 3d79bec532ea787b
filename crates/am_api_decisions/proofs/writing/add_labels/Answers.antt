use Rattle.am_api_decisions.proofs.Adding.{labels_are}
use Rattle.am_api_decisions.proofs.writing.add_labels.Goals as goal

pub returns : goal.returns
returns c = labels_are _ _ _ _ c.args.labels.now c.in_ok-add.ensures c.in_ok-add_each_label.ensures c.in_ok-add-2.ensures
