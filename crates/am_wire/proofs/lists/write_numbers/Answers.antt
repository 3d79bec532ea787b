use Rattle.std.proofs.Common.{◌≡◌, ℕ, List, ◌++◌, length, ◌∙◌, ap, sym, append_assoc, append-nil, length-append, rules, arith}
use Rattle.std.specs.List.{flat_map}
use Rattle.std.proofs.lemmas.List.{get_or_default}
use Rattle.am_wire.specs.Varint.{shortest}
use Rattle.am_wire.specs.Writing.{tag}
use Rattle.am_wire.proofs.Unpacking.{packed_filled, none_packed}
use Rattle.am_wire.proofs.lists.write_numbers.Goals as goal

pub returns-in_ok-append_varints-clause-ok : goal.returns-in_ok-append_varints-clause-ok
returns-in_ok-append_varints-clause-ok c =
    let text : List ℕ = flat_map shortest c.args.numbers.now in
    let old : List ℕ = c.args.out.now.items in
    let size : ℕ = c.varints_size.result in
    let front = c.in_ok-write_prefix.ensures.ok in
    let whole = c.in_ok-append_varints.ensures.ok in
    let held = c.append_varints.new.out.ok in
    let small = c.append_varints.new.out.small in
    let long = ap length whole ∙ length-append c.write_prefix.new.out.items text in
    let exact : size ≡ length text = omega (arith, c.varints_size.ensures, held.0, held.1, small, long) in
    rw (packed_filled c.args.numbers.now c.if-not-is_empty.ensures)
    (whole ∙ ap (λ (x : List ℕ). x ++ text) front ∙ append_assoc old (tag c.args.number 2 ++ shortest size) text
    ∙ ap (λ (x : List ℕ). old ++ x) (append_assoc (tag c.args.number 2) (shortest size) text)
    ∙ ap (λ (n : ℕ). old ++ (tag c.args.number 2 ++ (shortest n ++ text))) exact)

pub returns-in_ok-append_varints-clause-range : goal.returns-in_ok-append_varints-clause-range
returns-in_ok-append_varints-clause-range c = λ k d lt. let fits = c.type_inv.numbers k in rw (get_or_default c.args.numbers.now k d 0 lt) (search (rules, fits))

pub returns-else-not-is_empty-clause-ok : goal.returns-else-not-is_empty-clause-ok
returns-else-not-is_empty-clause-ok c = rw (none_packed c.args.numbers.now c.if-not-is_empty.ensures) (sym (append-nil _))

pub returns-else-not-is_empty-clause-range : goal.returns-else-not-is_empty-clause-range
returns-else-not-is_empty-clause-range c = λ k d lt. let fits = c.type_inv.numbers k in rw (get_or_default c.args.numbers.now k d 0 lt) (search (rules, fits))
