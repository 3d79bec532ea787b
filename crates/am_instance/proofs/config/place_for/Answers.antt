use Rattle.am_instance.proofs.Names.{place_found}
use Rattle.am_instance.proofs.config.place_for.Goals as goal

pub returns : goal.returns
returns c =
    let found = place_found c.args.name.now c.args.names.now c.requires c.binary_search.result c.binary_search.ensures.bound c.binary_search.ensures.position in
    rw c.err.ensures.value (record { place = found.within; order = found.in_order; there = found.there })
