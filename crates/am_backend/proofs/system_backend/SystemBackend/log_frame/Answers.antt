use Rattle.am_backend.specs.Stores.{store_of}
use Rattle.am_backend.proofs.Logged.{logged_delta}
use Rattle.am_backend.proofs.system_backend.SystemBackend.log_frame.Goals as goal

pub returns-in-Delta-clause-logged : goal.returns-in-Delta-clause-logged
returns-in-Delta-clause-logged g c =
    rw c.in-Delta.is
    (logged_delta c.in-Delta.part (store_of c.args.self.now) (store_of c.log_part.new.self) c.add.new.self c.add.ensures c.log_part.ensures.rows c.log_part.ensures.goes_on)
