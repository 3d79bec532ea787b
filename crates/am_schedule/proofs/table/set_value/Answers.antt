use Rattle.std.proofs.lemmas.Map.Text.{btree_map_updates_str}
use Rattle.am_schedule.specs.Tables.{value_in}
use Rattle.am_schedule.proofs.table.set_value.Goals as goal

pub returns : goal.returns
unfolding value_in
returns g c = btree_map_updates_str c.args.key.now c.args.table.now c.insert.new.self _ c.in_ok-insert.ensures.updates
