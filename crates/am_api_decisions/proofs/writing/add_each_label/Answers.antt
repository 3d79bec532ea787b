use Rattle.std.proofs.Common.{arith}
use Rattle.am_api_decisions.specs.Answers.{label_tokens}
use Rattle.am_api_decisions.proofs.Adding.{tokens_more}
use Rattle.am_api_decisions.proofs.writing.add_each_label.Goals as goal

pub loop-label-preserved : goal.loop-label-preserved
loop-label-preserved c =
    let added = rw (c.as_str.ensures.bytes, c.as_str-in-loop-label.ensures.bytes) at c.in_ok-add_text.ensures in
    tokens_more label_tokens _ _ c.label-item.result (omega arith) c.label-item.is c.loop-label.invariant added
