use Rattle.std.proofs.Common.{ℕ, subst}
use Rattle.am_wire.proofs.Passings.{both}
use Rattle.am_wire.specs.Passing.{Passes}
use Rattle.am_wire.specs.Writing.{writes_number}
use Rattle.am_nflog.specs.Receivers.{writes_receiver}
use Rattle.am_nflog.proofs.canonical.pass_receiver_text.Goals as goal

pub returns-clause-passed : goal.returns-clause-passed
unfolding writes_receiver
returns-clause-passed c =
    let idx = subst (λ (n : ℕ). Passes (writes_number 3 n) c.text-2.new.self c.number.new.self) c.in_ok-idx-2.ensures c.in_ok-idx.ensures in
    rw c.new-receiver.ensures (both _ _ _ _ _ (both _ _ _ _ _ c.in_ok-group_name.ensures.passed c.in_ok-integration.ensures.passed) idx)
