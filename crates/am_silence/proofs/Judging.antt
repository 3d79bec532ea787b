-- Tests that come after the faults of reading.
use Rattle.std.proofs.Common.{◌≡◌, Option, Some, None, Ok, Err, refl, ap, ◌∙◌}
use Rattle.am_wire.specs.declared.error.WireError.{WireError}
use Rattle.am_wire.specs.Reading.{fault_or_value, ◌then◌}

pub value-passed : {A : Type 0} (test : Option WireError) (v w : A) → fault_or_value test v ≡ Ok w → test ≡ None
value-passed (Some f) v w h = absurd cc
value-passed None v w h = refl

pub fault-found : {A : Type 0} (test : Option WireError) (v : A) (e : WireError) → fault_or_value test v ≡ Err e → test ≡ Some e
fault-found (Some f) v e h = cc
fault-found None v e h = absurd cc

pub then-right : (a b c : Option WireError) → a ≡ None → b ≡ c → (a then b) ≡ c
then-right a b c h is = ap (λ (t : Option WireError). t then b) h ∙ is
