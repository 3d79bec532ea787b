-- The faults in a message's fields are the same whatever is made of the fields.
use Rattle.std.proofs.Common.{◌≡◌, Option, Some, None, Err}
use Rattle.am_wire.specs.declared.error.WireError.{WireError}
use Rattle.am_wire.specs.Reading.{fault_or_value}

pub same_fault : {A B : Type 0} (fault : Option WireError) (x : A) (y : B) (e : WireError) → fault_or_value fault x ≡ Err e → fault_or_value fault y ≡ Err e
same_fault (Some first) x y e is = cc
same_fault None x y e is = cc
