use Rattle.std.proofs.Common.{sym, subst, map}
use Rattle.am_runs.specs.Accounts.{IsAccount}
use Rattle.am_runs.specs.Records.{step_of}
use Rattle.am_runs.proofs.run.Run.make_room.Goals as goal

pub invariant_of-self : goal.invariant_of-self
invariant_of-self g c = record { run = c.self.invariant.run; values = c.self.invariant.values; stands = (rw c.deref.ensures.value at c.fill_first.ensures) c.self.invariant.stands }

pub invariant_of-self-2 : goal.invariant_of-self-2
invariant_of-self-2 g c =
    subst (λ ss. IsAccount g.V.Version.seen g.V.Key.Ord.cmp g.V.Version.is_value c.self.inside.members (map step_of ss) c.fill_first.new.indexes.items) (sym c.reserve.ensures.items)
    (record { run = c.self.invariant.run; values = c.self.invariant.values; stands = (rw c.deref.ensures.value at c.fill_first.ensures) c.self.invariant.stands })
