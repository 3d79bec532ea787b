use Rattle.std.proofs.Common.{rules, [], ◌∷◌, ◌++◌, append_assoc, sym, ap, ◌∙◌}
use Rattle.std.specs.Fmt.{decimal}
use Rattle.std.proofs.Output.{has_written_append, has_written_of_eq}
use Rattle.am_report.proofs.Listing.{commas_next}
use Rattle.am_report.proofs.lists.write_numbers.Goals as goal

pub loop-number-init : goal.loop-number-init
loop-number-init g c = ([], c.into_iter-number-iterator.ensures.into_iter_gives, λ plain. search rules)

pub loop-number-preserved : goal.loop-number-preserved
loop-number-preserved g c =
    let before = c.loop-number.invariant in
    let n = c.in-Some.number in (
      before.0 ++ n ∷ [],
      append_assoc before.0 (n ∷ []) _ ∙ ap (λ ns. before.0 ++ ns) (sym c.in-Some.ensures.steps) ∙ before.1,
      λ plain.
          has_written_of_eq _ _ _ _ _ (commas_next decimal before.0 n)
          (has_written_append _ _ _ _ _ _ (before.2 plain) (search rules)),
    )
