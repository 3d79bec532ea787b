use Rattle.std.proofs.Common.{arith, sym, ◌∙◌}
use Rattle.std.proofs.lemmas.List.Elements.{All-push}
use Rattle.std.proofs.lemmas.Result.{err_from_is_err_and}
use Rattle.am_api_decisions.specs.Messages.{IsInOrder, alert_of}
use Rattle.am_api_decisions.proofs.Reading.{one_read, one_fault, all_read}
use Rattle.am_api_decisions.proofs.message.read_each.Goals as goal

pub returns-in_err-alert-clause-wrong : goal.returns-in_err-alert-clause-wrong
returns-in_err-alert-clause-wrong c = λ key e.
    let p = err_from_is_err_and c.from_residual-in_err-alert.result c.from_residual-in_err-alert.ensures.1 in
    let told = rw (p.1, p.2) at e in
    sym c.loop-value.invariant.read
    ∙ one_fault alert_of c.args.values.now c.loop-value.value-index c.value-item.result c.loop-value.alerts.items key (omega arith) c.value-item.is
    (c.in_err-alert.ensures.wrong key (cc told))

pub loop-value-preserved : goal.loop-value-preserved
loop-value-preserved c =
    let so_far = c.loop-value.invariant in
    let read = c.in_ok-alert.ensures in
    rw c.in_ok-push.ensures.items (record {
      read =
          sym (one_read alert_of c.args.values.now c.loop-value.value-index c.value-item.result c.loop-value.alerts.items _ (omega arith) c.value-item.is read.read)
          ∙ so_far.read;
      in_order = All-push IsInOrder _ _ so_far.in_order read.in_order;
    })

pub returns-clause-read : goal.returns-clause-read
returns-clause-read c =
    sym c.loop-value.invariant.read ∙ all_read alert_of c.args.values.now c.loop-value.value-index c.loop-value.alerts.items (omega arith)
