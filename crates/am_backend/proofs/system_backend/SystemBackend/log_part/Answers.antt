use Rattle.std.specs.Prelude.{is_some}
use Rattle.std.proofs.Common.{refl}
use Rattle.am_backend.specs.Stores.{store_of}
use Rattle.am_backend.proofs.Logged.{lost_goes_on}
use Rattle.am_backend.proofs.system_backend.SystemBackend.log_part.Goals as goal
use Rattle.am_backend.proofs.system_backend.SystemBackend.log_part.Goals.{in-Sil, in-Nfl}

pub returns-clause-goes_on : goal.returns-clause-goes_on
returns-clause-goes_on g c =
    elim c.match-part.branch [
      | in-Sil w ↦ lost_goes_on (is_some c.match-part.failed) c.args.self.now.commit_state (store_of c.match-part.self) (store_of c.tell_behind.new.self) (rw w.self-is refl) c.tell_behind.ensures.store
      | in-Nfl w ↦ lost_goes_on (is_some c.match-part.failed) c.args.self.now.commit_state (store_of c.match-part.self) (store_of c.tell_behind.new.self) (rw w.self-is refl) c.tell_behind.ensures.store
    ]
