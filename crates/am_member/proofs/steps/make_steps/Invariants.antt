use Rattle.std.proofs.Common.{◌≡◌, ◌++◌}
use Rattle.am_member.specs.Incoming.{MakesAll, so_far}
use Rattle.am_member.proofs.steps.make_steps.Given as goal

abbrev pub invariant-loop-frame : goal.invariant-loop-frame
invariant-loop-frame l =
    MakesAll l.sender l.now l.yielded (so_far l.fn.instance l.fn.effects) (so_far l.instance l.effects) × (l.fn.frames.items ≡ l.yielded ++ l.frame-iterator.rest.items)
