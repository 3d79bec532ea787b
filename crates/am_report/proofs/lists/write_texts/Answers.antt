use Rattle.std.proofs.Common.{rules, ◌∷◌, ◌++◌, take, ap, ◌∙◌}
use Rattle.std.proofs.Output.{has_written_append, has_written_of_eq}
use Rattle.am_report.specs.Lists.{behind_commas}
use Rattle.am_report.specs.Words.{listed_word_of}
use Rattle.am_report.proofs.Listing.{commas_more}
use Rattle.am_report.proofs.lists.write_texts.Goals as goal

pub loop-text-preserved : goal.loop-text-preserved
loop-text-preserved g c = λ plain.
    let before = behind_commas listed_word_of (take c.loop-text.text-index c.args.texts.now) in
    has_written_of_eq _ _ _ _ _
    (ap (λ text. before ++ (44 ∷ listed_word_of text)) (c.listed.ensures ∙ c.text-item.is) ∙ commas_more listed_word_of c.args.texts.now c.loop-text.text-index c.text-item.result c.loop-text-test.true)
    (has_written_append _ _ before _ (44 ∷ listed_word_of c.listed.result.0.now) _ (c.loop-text.invariant plain) (search rules))
