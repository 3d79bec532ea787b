use Rattle.std.proofs.Common.{arith, ◌≡◌, ◌<◌, ◌^◌, cond, eqb, length, ◌+◌, sym, ap, ◌∙◌, Bool, ℕ}
use Rattle.std.specs.List.{flat_map}
use Rattle.am_wire.specs.Varint.{shortest}
use Rattle.am_wire.proofs.Unpacking.{none_alike}
use Rattle.am_wire.proofs.Offsets.{part_short, stands_written}
use Rattle.am_wire.proofs.offset.write_packed_part.Goals as goal

pub returns-clause-offset : goal.returns-clause-offset
returns-clause-offset c =
    let text = c.write_numbers.new.out in
    let part = flat_map shortest c.args.numbers.now in
    let small : length text.items < 2 ^ 64 = omega (arith, text.ok.0, text.ok.1, text.small) in
    let start : c.behind_tag-offset.result.start ≡ cond (eqb (length part) 0) 0 (length c.args.out.now.items + 1) =
    c.behind_tag-offset.ensures
    ∙ ap (λ (b : Bool). cond b 0 (c.len.result + 1)) (c.is_empty.ensures ∙ sym (none_alike c.args.numbers.now))
    ∙ ap (λ (n : ℕ). cond (eqb (length part) 0) 0 (n + 1)) (c.len.ensures ∙ c.args.out.now.ok.0) in
    let short = part_short c.args.out.now.items part text.items c.args.number small c.in_ok-write_numbers.ensures.ok in
    stands_written c.args.out.now.items part text.items c.args.number c.behind_tag-offset.result c.requires short c.in_ok-write_numbers.ensures.ok start
