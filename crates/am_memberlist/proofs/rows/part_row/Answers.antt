use Rattle.std.proofs.Common.{[], sym, ◌∙◌}
use Rattle.std.proofs.lemmas.Result.{err_from_is_err_and}
use Rattle.am_memberlist.proofs.Parts.{other_row, own_row, part_fails}
use Rattle.am_memberlist.proofs.rows.part_row.Goals as goal

pub returns-then-is_key : goal.returns-then-is_key
returns-then-is_key c =
    let h = c.in_ok-take_fields.ensures.held [] c.start-part.ensures in
    own_row c.args.key c.args.at c.args.bytes.now _ _ c.in_ok-take_fields.ensures.clean h.key h.row (sym c.is_key.ensures ∙ c.if-is_key.true)

pub returns-else-is_key : goal.returns-else-is_key
returns-else-is_key c =
    let h = c.in_ok-take_fields.ensures.held [] c.start-part.ensures in
    other_row c.args.key c.args.at c.args.bytes.now _ _ c.in_ok-take_fields.ensures.clean h.key h.row (sym c.is_key.ensures ∙ c.if-is_key.false)

pub returns-in_err-take_fields : goal.returns-in_err-take_fields
returns-in_err-take_fields c =
    let p = err_from_is_err_and c.from_residual.result c.from_residual.ensures.1 in
    rw (p.1, p.2) (part_fails c.args.key c.args.at c.args.bytes.now _ c.in_err-take_fields.ensures.fault)
