use Rattle.std.proofs.Common.{rules, ◌∷◌, take, get_or}
use Rattle.std.specs.Fmt.{decimal}
use Rattle.std.proofs.Output.{has_written_append, has_written_of_eq}
use Rattle.am_report.specs.Lists.{behind_commas}
use Rattle.am_report.proofs.Listing.{commas_more}
use Rattle.am_report.proofs.lists.write_field_numbers.Goals as goal

pub loop-number-preserved : goal.loop-number-preserved
loop-number-preserved g c = λ plain.
    let before = behind_commas decimal (take c.loop-number.number-index c.args.numbers.now) in
    has_written_of_eq _ _ _ _ _ (commas_more decimal c.args.numbers.now c.loop-number.number-index 0 c.loop-number-test.true)
    (has_written_append _ _ before _ (44 ∷ decimal (get_or c.args.numbers.now c.loop-number.number-index 0)) _ (c.loop-number.invariant plain) (search rules))
