use Rattle.am_store.proofs.PartingStops.{none_parted, of_part}
use Rattle.am_store.proofs.state.part_log_beside.Goals as goal

pub returns-in-Some-clause-act : goal.returns-in-Some-clause-act
returns-in-Some-clause-act g c = of_part c.part.result c.args.path.now c.args.disk.now.log.events c.part.new.disk.log.events _ _ c.part.ensures.parted c.part.ensures.stopped

pub returns-in-None-clause-act : goal.returns-in-None-clause-act
returns-in-None-clause-act g c = none_parted c.args.path.now c.args.disk.now.log.events
