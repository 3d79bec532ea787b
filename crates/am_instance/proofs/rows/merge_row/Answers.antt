use Rattle.std.proofs.Common.{◌≡◌, ◌<◌, ◌∷◌, List, length, ap, refl, sym, subst, ◌∙◌, arith}
use Rattle.std.proofs.lemmas.Result.{err_from_is_err_and}
use Rattle.std.specs.Prelude.{Some, Result, Ok, Err}
use Rattle.am_wire.specs.Inputs.{GivesNext}
use Rattle.am_wire.specs.declared.error.WireError.{WireError}
use Rattle.am_instance.specs.Deliveries.{before_fault, first_fault}
use Rattle.am_instance.proofs.TakenRows.{begins, goes_on, ends, stops}
use Rattle.am_instance.proofs.rows.merge_row.Goals as goal

-- a message that was read was the first to come
gives_ok : {A : Type 0} (coming left : List (Result A WireError)) (given : Result A WireError) (v : A) → GivesNext coming (Some given) left → given ≡ Ok v → coming ≡ Ok v ∷ left
gives_ok coming left given v gives is = subst (λ g. GivesNext coming (Some g) left) is gives

-- and then something was to come
some_came : {A : Type 0} (coming left : List (Result A WireError)) (given : Result A WireError) → GivesNext coming (Some given) left → 0 < length coming
some_came coming left (Ok v) gives = let size = ap (λ (xs : List (Result _ WireError)). length xs) gives in omega (arith, size)
some_came coming left (Err e) gives = gives.0

pub loop-message-init : goal.loop-message-init
loop-message-init g c =
    let same = c.into_iter-message-iterator.ensures.into_iter_gives ∙ c.within-message-items.ensures in
    begins _ _ _ _ _ _ _ _ _ (ap before_fault (sym same)) (ap first_fault same ∙ c.requires)

pub loop-message-preserved : goal.loop-message-preserved
loop-message-preserved g c =
    let taken = c.in_ok-take_one.ensures in
    let next = gives_ok c.loop-message.message-iterator c.next.new.self c.in-Some.message c.in-Ok.version c.in-Some.ensures.steps c.in-Ok.is in
    goes_on _ _ _ _ _ _ c.loop-message.message-iterator c.next.new.self c.in-Ok.version c.loop-message.held c.take_one.new.held _ c.loop-message.taken c.take_one.new.taken _ _ _ c.loop-message.invariant next taken.map taken.count taken.sent

pub returns-clause-map : goal.returns-clause-map
returns-clause-map g c = λ key.
    ap (λ m. m key) (ends _ _ _ _ _ _ _ _ _ _ _ _ c.loop-message.invariant c.in-None.ensures.steps.0).0

pub returns-clause-count : goal.returns-clause-count
returns-clause-count g c = (ends _ _ _ _ _ _ _ _ _ _ _ _ c.loop-message.invariant c.in-None.ensures.steps.0).1

pub returns-clause-sent : goal.returns-clause-sent
returns-clause-sent g c = (ends _ _ _ _ _ _ _ _ _ _ _ _ c.loop-message.invariant c.in-None.ensures.steps.0).2

pub returns-in_default-clause-stopped : goal.returns-in_default-clause-stopped
returns-in_default-clause-stopped g c =
    stops _ _ _ _ _ _ _ _ _ _ _ _ _ _ c.loop-message.invariant (some_came _ _ c.in-Some.message c.in-Some.ensures.steps) refl refl

pub returns-in_err-take_one-clause-stopped : goal.returns-in_err-take_one-clause-stopped
returns-in_err-take_one-clause-stopped g c =
    let p = err_from_is_err_and c.from_residual.result c.from_residual.ensures.1 in
    rw p.1 (stops _ _ _ _ _ _ _ _ _ _ _ _ _ _ c.loop-message.invariant (some_came _ _ c.in-Some.message c.in-Some.ensures.steps) c.in_err-take_one.ensures.held c.in_err-take_one.ensures.not_counted)
