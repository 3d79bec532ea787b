use Rattle.std.proofs.Common.{List, Result, refl, ap, ◌∙◌}
use Rattle.std.proofs.lemmas.Result.{err_from_is_err_and}
use Rattle.am_wire.specs.declared.error.WireError.{WireError}
use Rattle.am_wire.specs.Fields.{FieldAt, field_of}
use Rattle.am_memberlist.specs.Rows.{row_in, row_of_fields}
use Rattle.am_memberlist.specs.Seen.{found_seen}
use Rattle.am_memberlist.proofs.Parts.{wire_gives, one_more, at_fault}
use Rattle.am_memberlist.proofs.rows.row_in.Goals as goal

pub loop-field-init : goal.loop-field-init
unfolding row_in
loop-field-init c = rw (c.into_iter-field-iterator.ensures.into_iter_gives, c.new-field-items.ensures) refl

pub returns-in_err-field : goal.returns-in_err-field
returns-in_err-field c =
    let is = rw c.in_err-field.was at c.in-Some.ensures.steps in
    let p = err_from_is_err_and c.from_residual.result c.from_residual.ensures.1 in
    rw (p.1, p.2) (wire_gives _ _ (c.loop-field.invariant ∙ ap (λ (x : List (Result FieldAt WireError)). row_of_fields c.args.key (found_seen c.loop-field.found) x) is))

pub loop-field-preserved : goal.loop-field-preserved
loop-field-preserved c =
    let is = rw c.in_ok-field.was at c.in-Some.ensures.steps in
    c.loop-field.invariant ∙ ap (λ (x : List (Result FieldAt WireError)). row_of_fields c.args.key (found_seen c.loop-field.found) x) is
    ∙ one_more c.args.key (found_seen c.loop-field.found) (found_seen c.in_ok-found.found) (field_of c.in_ok-field.field-0) c.next.new.self c.in_ok-found.ensures

pub returns-in_err-found : goal.returns-in_err-found
returns-in_err-found c =
    let is = rw c.in_ok-field.was at c.in-Some.ensures.steps in
    let p = err_from_is_err_and c.from_residual-in_err-found.result c.from_residual-in_err-found.ensures.1 in
    rw (p.1, p.2) (λ other. c.loop-field.invariant ∙ ap (λ (x : List (Result FieldAt WireError)). row_of_fields c.args.key (found_seen c.loop-field.found) x) is
    ∙ at_fault c.args.key (found_seen c.loop-field.found) (field_of c.in_ok-field.field-0) c.next.new.self _ (c.in_err-found.ensures other))

pub returns : goal.returns
returns c =
    c.loop-field.invariant ∙ ap (λ (x : List (Result FieldAt WireError)). row_of_fields c.args.key (found_seen c.loop-field.found) x) c.in-None.ensures.steps.0
