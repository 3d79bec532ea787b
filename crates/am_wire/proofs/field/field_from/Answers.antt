use Rattle.std.proofs.Common.{◌≤◌, ◌-◌, length, drop, refl, arith, length-drop}
use Rattle.std.proofs.lemmas.List.{take_all}
use Rattle.am_wire.specs.Fields.{field_at}
use Rattle.am_wire.proofs.field.field_from.Goals as goal

pub returns-clause-value : goal.returns-clause-value
unfolding field_at
returns-clause-value g c =
    let fits : length (drop c.in_ok-tag.tag_len c.args.bytes.now) ≤ length c.args.bytes.now - c.in_ok-tag.tag_len = simp length-drop (omega arith) in
    let payload = rw (take_all _ _ fits) at c.in_ok-value.ensures.value in
    rw (← c.in_ok-tag.ensures.value, ← c.in_ok-number.ensures, ← c.in_ok-wire_type.ensures, ← c.fits.ensures, c.if-not-fits.false, ← payload) refl
