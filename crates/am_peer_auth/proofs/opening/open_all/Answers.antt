use Rattle.std.proofs.Common.{drop, Ok, Err, refl}
use Rattle.am_wire.proofs.Items.{rest_is}
use Rattle.am_peer_auth.proofs.Walked.{no_more}
use Rattle.am_peer_auth.proofs.opening.open_all.Goals.{in-Waits, in-Refused}
use Rattle.am_peer_auth.proofs.opening.open_all.Goals as goal

pub returns-clause-opened : goal.returns-clause-opened
returns-clause-opened c =
    let rest = rest_is c.loop-frame.used c.args.bytes.now in
    elim c.match-front_of.branch [
      | in-Waits w ↦ rw w.fault-is (no_more _ _ _ _ _ _ _ c.loop-frame.invariant.1 (Ok (drop c.loop-frame.used c.args.bytes.now)) (refl, (rw (w.in-Waits.is, rest) at c.front_of.ensures).0))
      | in-Refused w ↦ rw w.fault-is (no_more _ _ _ _ _ _ _ c.loop-frame.invariant.1 (Err w.in-Refused.error) (rw (w.in-Refused.is, rest) at c.front_of.ensures))
    ]

pub front_of-requires : goal.front_of-requires
front_of-requires c = record {
  covers = rw (c.take.ensures.value, rest_is c.loop-frame.used c.args.bytes.now) c.loop-frame.invariant.2;
}
