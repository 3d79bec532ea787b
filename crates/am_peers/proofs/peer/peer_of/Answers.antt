use Rattle.am_peers.proofs.peer.peer_of.Goals as goal
use Rattle.am_peers.proofs.Signs.{has_none, none_cut, none_found, parts_at}

pub returns-in_err-name-clause-none : goal.returns-in_err-name-clause-none
returns-in_err-name-clause-none c = rw c.from_residual.ensures (none_found c.args.word.now c.in_err-name.ensures.cases)

pub returns-in-None-clause-none : goal.returns-in-None-clause-none
returns-in-None-clause-none c =
    let found = c.in_ok-name.ensures.cases in
    none_cut c.args.word.now found.0 found.1 found.2.0 found.2.1 c.in_ok-name.text.now found.4 c.in-None.ensures.none

pub returns-in-Some-clause-some : goal.returns-in-Some-clause-some
returns-in-Some-clause-some c =
    let found = c.in_ok-name.ensures.cases in
    record {
      text = c.in_ok-name.text.now;
      parts = rw (found.3, found.4) (parts_at c.args.word.now found.0 found.1 found.2.0 found.2.1);
      last = rw found.4 (has_none _ found.2.0);
      is = c.in-Some.ensures.some;
    }
