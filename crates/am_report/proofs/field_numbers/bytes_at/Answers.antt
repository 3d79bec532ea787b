use Rattle.std.proofs.Common.{◌≡◌, Result, Ok, List, [], ◌∷◌, ◌++◌, length, ap, ◌∙◌, subst}
use Rattle.am_wire.specs.declared.error.WireError.{WireError}
use Rattle.am_wire.specs.Fields.{FieldAt, field_of, field_seen_one}
use Rattle.am_wire.specs.Reading.{sound_fields}
use Rattle.am_report.specs.UnknownFields.{bytes_at, bytes_of, start_of}
use Rattle.am_report.proofs.FieldNumbers.{bytes_begun, bytes_more, bytes_ended, open_up_to}
use Rattle.am_report.proofs.field_numbers.bytes_at.Goals as goal
use Rattle.am_report.proofs.field_numbers.bytes_at.Goals.{in-None, in-Some+in_default}

pub loop-item-init : goal.loop-item-init
loop-item-init c =
    bytes_begun c.args.number c.args.bytes.now c.new-out.result.items _ c.new-out.ensures.items
    (ap sound_fields (c.into_iter-item-iterator.ensures.into_iter_gives ∙ c.new-item-items.ensures))

pub loop-item-preserved : goal.loop-item-preserved
loop-item-preserved c =
    let bytes = c.args.bytes.now in
    let out = c.loop-item.out.items in
    let begun = c.loop-item.begun in
    let steps : c.loop-item.item-iterator ≡ Ok (field_of c.in-Ok.field) ∷ c.next.new.self =
    c.in-Some.ensures.steps ∙ ap (λ r. field_seen_one r ∷ c.next.new.self) c.in-Ok.is in
    let before = subst (λ (items : List (Result FieldAt WireError)).
    (out ++ open_up_to c.args.number bytes (start_of (length bytes) (sound_fields items)) begun) ++ bytes_of c.args.number bytes (sound_fields items)
    ≡ bytes_at c.args.number bytes) steps c.loop-item.invariant in
    bytes_more c.args.number bytes out c.append_begun.new.out.items (bytes_at c.args.number bytes) (field_of c.in-Ok.field) (sound_fields c.next.new.self) begun
    c.begun_at-begun.result c.begun_at-begun.ensures c.in_ok-append_begun.ensures before

pub returns : goal.returns
returns c =
    let ended : sound_fields c.loop-item.item-iterator ≡ [] = elim c.match-next.branch [
      | in-None w ↦ ap sound_fields w.in-None.ensures.steps.0
      | in-Some+in_default w ↦ ap sound_fields (w.in-Some.ensures.steps ∙ ap (λ r. field_seen_one r ∷ c.next.new.self) w.in_default.is)
    ] in
    bytes_ended c.args.number c.args.bytes.now c.loop-item.out.items c.append_begun-2.new.out.items _ (sound_fields c.loop-item.item-iterator) c.loop-item.begun ended
    c.in_ok-append_begun-2.ensures c.loop-item.invariant
