use Rattle.std.proofs.Common.{[], inl, inr, refl, rules}
use Rattle.am_store.proofs.Stops.{is_cut, is_uncut}
use Rattle.am_store.proofs.saving.directory_of.Goals as goal

pub returns-in-Some-empty-default : goal.returns-in-Some-empty-default
returns-in-Some-empty-default c =
    let found = c.in-Some-empty-default.ensures.cases in
    inr ([], c.in-Some-empty-default.field-0-1.now, is_cut c.args.path.now found.0 found.1 found.2.0 found.2.1 [] c.in-Some-empty-default.field-0-1.now (search rules) found.4, refl)

pub returns-in-Some : goal.returns-in-Some
returns-in-Some c =
    let found = c.in-Some.ensures.cases in
    inr (c.in-Some.directory.now, c.in-Some.field-0-1.now, is_cut c.args.path.now found.0 found.1 found.2.0 found.2.1 c.in-Some.directory.now c.in-Some.field-0-1.now found.3 found.4, grind rules)

pub returns-in-None : goal.returns-in-None
returns-in-None c = inl (is_uncut c.args.path.now c.in-None.ensures.cases, refl)
