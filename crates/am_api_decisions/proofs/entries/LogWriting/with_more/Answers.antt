use Rattle.std.proofs.Common.{◌≤◌, ◌∙◌, arith}
use Rattle.am_api_decisions.proofs.EntryRows.{stretch_written}
use Rattle.am_api_decisions.proofs.entries.LogWriting.with_more.Goals as goal

pub invariant_of-result : goal.invariant_of-result
invariant_of-result c =
    let added = rw c.deref.ensures.value at c.in_ok-add_entries.ensures in
    let later : c.self.inside.count ≤ c.min-end.result = omega arith in record {
      within = omega arith;
      alone = added.before ∙ c.self.invariant.alone;
      written = stretch_written c.self.inside.rows.items c.self.inside.count c.min-end.result _ _ later c.self.invariant.written added;
    }
