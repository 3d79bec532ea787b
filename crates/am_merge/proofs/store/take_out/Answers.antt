use Rattle.am_merge.proofs.Steps.{taken_out}
use Rattle.am_merge.proofs.store.take_out.Goals as goal

pub returns-clause-index : goal.returns-clause-index
returns-clause-index g c =
    taken_out g.V.Version.seen c.args.store.now.table c.remove-2.new.self c.args.store.now.expiries c.remove.new.self c.args.slot c.remove-2.result c.expiry_cursor-cursor.result c.remove-2.ensures.value c.remove-2.ensures.updates c.requires.index c.expiry_cursor-cursor.ensures.item c.expiry_cursor-cursor.ensures.own c.remove.ensures.items
