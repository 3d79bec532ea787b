use Rattle.std.proofs.Common.{◌-◌, vec_capacity, vec_len}
use Rattle.am_cluster.proofs.Departing.{HasSentOff}
use Rattle.am_cluster.proofs.sending.send_off.Given as goal

abbrev pub invariant-loop-addressee : goal.invariant-loop-addressee
invariant-loop-addressee l =
    HasSentOff l.fn.count l.fn.sender l.fn.now l.fn.flights.items l.fn.frames.items l.yielded l.addressee-iterator.rest.items
    l.flights.items l.number (vec_capacity l.flights - vec_len l.flights)
