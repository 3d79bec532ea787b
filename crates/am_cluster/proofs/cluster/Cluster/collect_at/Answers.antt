use Rattle.std.proofs.Common.{refl}
use Rattle.am_cluster.proofs.Turned.{collected, not_collected}
use Rattle.am_cluster.proofs.cluster.Cluster.collect_at.Goals as goal

pub apply_event-requires-clause-ready : goal.apply_event-requires-clause-ready
apply_event-requires-clause-ready c = λ replica found. record {
  runs = c.requires.ready.runs c.args.place replica found;
  accepted = record { forward = c.requires.ready.forward c.args.place replica found; known = refl; sound = refl };
}

pub returns-in-Ok : goal.returns-in-Ok
returns-in-Ok c = collected c.args.self.now c.args.place c.args.now c.args.line c.apply_event.new.self c.requires.within _ c.in-Ok.ensures

pub returns-in-Err : goal.returns-in-Err
returns-in-Err c = not_collected c.args.self.now c.args.place c.args.now c.args.line c.apply_event.new.self c.requires.within _ c.in-Err.ensures
