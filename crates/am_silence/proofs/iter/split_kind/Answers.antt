use Rattle.std.proofs.Common.{ap, ◌∙◌}
use Rattle.std.proofs.lemmas.List.{take_rest}
use Rattle.am_silence.specs.Kinds.{kind_of}
use Rattle.am_silence.proofs.MatcherParts.{kind_short, kind_untold, kind_told}
use Rattle.am_silence.proofs.iter.split_kind.Goals as goal
use Rattle.am_silence.proofs.iter.split_kind.Goals.{then-text-lt2-via-then-text-lt2, then-text-lt2-via-else-text-lt2+then-text-ne-KIND_TAG}

pub returns-then-text-lt2 : goal.returns-then-text-lt2
returns-then-text-lt2 c = λ m is.
    elim c.then-text-lt2.branch [
      | then-text-lt2-via-then-text-lt2 w ↦ kind_short m _ is w.if-text-lt2.true
      | then-text-lt2-via-else-text-lt2+then-text-ne-KIND_TAG w ↦ kind_untold m _ is w.if-text-ne-KIND_TAG.true
    ]

pub returns : goal.returns
returns c = λ m is.
    let told = kind_told m _ is c.if-text-ne-KIND_TAG.false in
    (c.of_number.ensures ∙ ap kind_of c.from.ensures ∙ told.0, take_rest c.args.text.now 2 ∙ told.1)
