use Rattle.std.proofs.Common.{List, Result, sym, ap, ◌∙◌}
use Rattle.std.proofs.lemmas.Result.{err_from_is_err_and}
use Rattle.am_wire.specs.declared.error.WireError.{WireError}
use Rattle.am_wire.specs.Fields.{FieldAt}
use Rattle.am_gossip.specs.declared.frame.Part.{Part}
use Rattle.am_gossip.specs.Parts.{parts_of, reads_parts}
use Rattle.am_gossip.proofs.Taking.{behind, behind-nothing, behind-more, behind-fault, behind-wire, behind-end, wire_gives, done}
use Rattle.am_gossip.proofs.payload.read_full_state.Goals as goal

pub loop-field-init : goal.loop-field-init
unfolding reads_parts
loop-field-init c = rw (c.into_iter-field-iterator.ensures.into_iter_gives, c.new-field-items.ensures, c.new-parts.ensures.items) (behind-nothing _)

pub returns-in_err-field : goal.returns-in_err-field
returns-in_err-field c =
    let is = rw c.in_err-field.was at c.in-Some.ensures.steps in
    let p = err_from_is_err_and c.from_residual.result c.from_residual.ensures.1 in
    rw (p.1, p.2) (wire_gives _ _ (c.loop-field.invariant ∙ ap (λ (x : List (Result FieldAt WireError)). behind c.loop-field.parts.items (parts_of x)) is ∙ behind-wire _ _ _))

pub loop-field-preserved : goal.loop-field-preserved
loop-field-preserved c =
    let is = rw c.in_ok-field.was at c.in-Some.ensures.steps in
    let (read, is_read, items) = c.in_ok-take_part.ensures.held in
    rw items (c.loop-field.invariant ∙ ap (λ (x : List (Result FieldAt WireError)). behind c.loop-field.parts.items (parts_of x)) is ∙ behind-more _ read _ _ is_read)

pub returns-in_err-take_part : goal.returns-in_err-take_part
returns-in_err-take_part c =
    let is = rw c.in_ok-field.was at c.in-Some.ensures.steps in
    let p = err_from_is_err_and c.from_residual-in_err-take_part.result c.from_residual-in_err-take_part.ensures.1 in
    rw (p.1, p.2) (λ other. c.loop-field.invariant ∙ ap (λ (x : List (Result FieldAt WireError)). behind c.loop-field.parts.items (parts_of x)) is ∙ behind-fault _ _ _ _ (c.in_err-take_part.ensures.fault other))

pub returns : goal.returns
returns c =
    c.loop-field.invariant ∙ ap (λ (x : List (Result FieldAt WireError)). behind c.loop-field.parts.items (parts_of x)) c.in-None.ensures.steps.0
    ∙ behind-end _ ∙ ap (λ (x : List Part). done x) (sym c.new.ensures)
