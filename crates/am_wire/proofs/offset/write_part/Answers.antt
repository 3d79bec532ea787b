use Rattle.std.proofs.Common.{rules, ◌≡◌, ◌<◌, ◌^◌, cond, eqb, length, ◌+◌, ap, ◌∙◌, Bool, ℕ}
use Rattle.am_wire.proofs.Offsets.{stands_written}
use Rattle.am_wire.proofs.offset.write_part.Goals as goal

pub returns-clause-offset : goal.returns-clause-offset
returns-clause-offset c =
    let text = c.write_bytes.new.out in
    let small : length c.args.bytes.now < 2 ^ 64 = search rules in
    let start : c.behind_tag-offset.result.start ≡ cond (eqb (length c.args.bytes.now) 0) 0 (length c.args.out.now.items + 1) =
    c.behind_tag-offset.ensures ∙ ap (λ (b : Bool). cond b 0 (c.len.result + 1)) c.is_empty.ensures ∙ ap (λ (n : ℕ). cond (eqb (length c.args.bytes.now) 0) 0 (n + 1)) (c.len.ensures ∙ c.args.out.now.ok.0) in
    stands_written c.args.out.now.items c.args.bytes.now text.items c.args.number c.behind_tag-offset.result c.requires small c.in_ok-write_bytes.ensures.ok start
