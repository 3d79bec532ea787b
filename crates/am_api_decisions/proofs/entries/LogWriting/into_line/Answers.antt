use Rattle.std.proofs.Common.{◌≡◌, List, map, ap, subst, ◌∙◌}
use Rattle.am_nflog.specs.Mesh.{Mesh}
use Rattle.am_report.specs.Json.Values.{entry_data}
use Rattle.am_report.specs.Json.Views.{list_line}
use Rattle.am_api_decisions.specs.Entries.{Telling}
use Rattle.am_api_decisions.proofs.EntryRows.{all_written, alone}
use Rattle.am_api_decisions.proofs.entries.LogWriting.into_line.Goals as goal

pub returns : goal.returns
returns c =
    let added = rw c.deref.ensures.value at c.in_ok-add_entries.ensures in
    let all = all_written c.self.inside.rows.items c.self.inside.count _ _ c.self.invariant.within c.self.invariant.written added in
    subst (λ (rows : List Mesh). c.in_ok-line.line.items ≡ list_line (map entry_data rows)) (ap (λ (t : Telling). t.rows) c.self.view_is)
    (alone _ _ _ (added.before ∙ c.self.invariant.alone) (c.in_ok-line.ensures c.self.inside.rows.items all))
