use Rattle.std.proofs.Common.{◌≡◌, take}
use Rattle.am_instance.proofs.config.Config.try_clone.Given as goal

abbrev pub invariant-loop-name : goal.invariant-loop-name
invariant-loop-name l = l.members.items ≡ take l.name-index l.name-items
