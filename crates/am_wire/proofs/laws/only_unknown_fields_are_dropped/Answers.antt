use Rattle.am_wire.specs.RoundTrip.Plain.{read_whole}
use Rattle.am_wire.proofs.Dropping.{fault_kept, fault_dropped, is_plain}
use Rattle.am_wire.proofs.laws.only_unknown_fields_are_dropped.Goals as goal

pub returns-clause-faults : goal.returns-clause-faults
returns-clause-faults g c at bytes e =
    let alike = g.met.M.Message.dropped at bytes in
    (fault_kept g.M.Message.plain _ _ alike e, fault_dropped g.M.Message.plain _ _ alike e)

pub returns-clause-plain : goal.returns-clause-plain
returns-clause-plain g c at bytes v = is_plain g.M.Message.plain _ _ (g.met.M.Message.dropped at bytes) g.met.M.Message.plain_again v

pub returns-clause-whole : goal.returns-clause-whole
returns-clause-whole g c unknown v at value small stays =
    read_whole g.M.Message.plain g.M.Message.reads g.met.M.Message.dropped unknown v at (g.M.Message.writes v) stays (g.met.M.Message.round_trip v at value small)
