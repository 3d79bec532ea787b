use Rattle.std.proofs.Common.{refl, arith}
use Rattle.std.proofs.lemmas.Bool.Decides.{nat_tests}
use Rattle.std.proofs.lemmas.Option.{slice_get_past, slice_get-get_or}
use Rattle.regex_hir.specs.Text.{is_boundary}
use Rattle.am_matcher.proofs.search.begins_character.Goals as goal

pub returns-then-place-text : goal.returns-then-place-text
unfolding is_boundary
returns-then-place-text c = rw (slice_get_past c.args.text.now c.args.place c.if-place-text.true) refl

pub returns : goal.returns
unfolding is_boundary
returns c = rw (slice_get-get_or c.args.text.now c.args.place 0 c.if-place-text.false) (grind (arith, nat_tests))
