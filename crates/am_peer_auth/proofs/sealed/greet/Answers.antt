use Rattle.std.proofs.Common.{◌≡◌, Ok, Some}
use Rattle.am_gossip.specs.Hellos.{hello_of}
use Rattle.am_gossip.proofs.Greeted.{hello_found}
use Rattle.am_http.proofs.Seen.{seen_is}
use Rattle.am_peer_auth.proofs.sealed.greet.Goals as goal

pub split_at-requires : goal.split_at-requires
split_at-requires c =
    let h = c.in-Ok-Some in
    let is : hello_of c.args.bytes.now ≡ Ok (Some (h.name.now, h.len)) = seen_is c.args.bytes.now c.read_hello.result h.field-0 h.name h.len h.is h.field-0-is c.read_hello.ensures.exact in
    (hello_found c.args.bytes.now h.name.now h.len is).0
