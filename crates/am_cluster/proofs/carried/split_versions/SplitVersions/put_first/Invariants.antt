use Rattle.std.proofs.Common.{take}
use Rattle.am_cluster.proofs.Parting.{HasPut}
use Rattle.am_cluster.proofs.carried.split_versions.SplitVersions.put_first.Given as goal

abbrev pub invariant-loop-version : goal.invariant-loop-version
invariant-loop-version l = HasPut l.fn.self l.self (take l.fn.count l.fn.versions.items) l.yielded l.version-iterator.rest.items
