use Rattle.std.proofs.Common.{sym, ◌∙◌}
use Rattle.am_merge.proofs.Steps.{put_in}
use Rattle.am_merge.proofs.store.put_in.Goals as goal

pub returns-clause-index : goal.returns-clause-index
returns-clause-index g c =
    put_in g.V.Version.seen c.args.store.now.table c.insert_reserved.new.self c.args.store.now.expiries c.insert.new.self c.vacant_key-slot.result c.insert_reserved.result c.expires-expires.result c.args.version c.expiry_gap-cursor.result c.vacant_key-slot.ensures.vacant c.insert_reserved.ensures.updates (c.insert_reserved.ensures.key ∙ sym c.vacant_key-slot.ensures.value) c.expires-expires.ensures c.requires.index c.expiry_gap-cursor.ensures.gap c.insert.ensures.items
