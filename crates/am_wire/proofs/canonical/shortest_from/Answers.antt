use Rattle.std.proofs.Common.{rules, ◌<◌, ◌≤◌, ◌≡◌, ◌-◌, length, Ok, get_or, arith}
use Rattle.std.proofs.Math.Facts.{Fits-lt-pow}
use Rattle.am_wire.specs.Varint.{varint_at}
use Rattle.am_wire.proofs.LastGroups.{shortest_found}
use Rattle.am_wire.proofs.canonical.shortest_from.Goals as goal

pub returns-clause-spelling : goal.returns-clause-spelling
returns-clause-spelling c =
    let last : 0 < get_or c.args.bytes.now (c.in_ok-value.len - 1) 0 = omega (arith, c.if-bytes-len-eq0.false) in
    let some : 0 < c.in_ok-value.len = search rules in
    let within : c.in_ok-value.len ≤ length c.args.bytes.now = search rules in
    let read : varint_at 0 c.args.bytes.now ≡ Ok (c.in_ok-value.value, c.in_ok-value.len) = search rules in
    shortest_found c.args.bytes.now c.in_ok-value.value c.in_ok-value.len (λ i. Fits-lt-pow (c.type_inv.bytes i)) some within last read
