use Rattle.am_store.specs.Rewrites.{path_of}
use Rattle.am_store.specs.Saves.{calls_of}
use Rattle.am_store.proofs.PartingStops.{none_parted, unparted}
use Rattle.am_store.proofs.state.StateFile.part_logs.Goals as goal

pub returns-in_default-clause-stopped : goal.returns-in_default-clause-stopped
returns-in_default-clause-stopped g c = unparted (path_of c.args.self.now) (calls_of c.args.self.now) c.args.self.now.log

pub returns-in_default-clause-act : goal.returns-in_default-clause-act
returns-in_default-clause-act g c = none_parted (path_of c.args.self.now) (calls_of c.args.self.now)
