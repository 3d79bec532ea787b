use Rattle.std.proofs.Common.{arith}
use Rattle.am_api_decisions.proofs.EntryRows.{entry_more}
use Rattle.am_api_decisions.proofs.entries.add_entries.Goals as goal

pub loop-entry-preserved : goal.loop-entry-preserved
loop-entry-preserved c =
    entry_more c.args.rows.now c.loop-entry.entry-index c.entry-item.result (omega arith) c.entry-item.is c.loop-entry.invariant
    c.in_ok-add_value.ensures
