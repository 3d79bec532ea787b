use Rattle.std.proofs.Common.{◌≡◌}
use Rattle.am_memberlist.specs.Rows.{row_in, row_of_fields}
use Rattle.am_memberlist.specs.Seen.{found_seen}
use Rattle.am_memberlist.proofs.rows.row_in.Given as goal

abbrev pub invariant-loop-field : goal.invariant-loop-field
invariant-loop-field l = row_in l.key l.states ≡ row_of_fields l.key (found_seen l.found) l.field-iterator
