use Rattle.std.proofs.Common.{◌≡◌, take}
use Rattle.am_http.specs.Hosts.{is_one_of, texts}
use Rattle.am_http.proofs.hosts.is_one_of.Given as goal

abbrev pub invariant-loop-known : goal.invariant-loop-known
invariant-loop-known l = l.found ≡ is_one_of l.name (texts (take l.known-index l.names))
