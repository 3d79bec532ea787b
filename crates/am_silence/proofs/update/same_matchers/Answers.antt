use Rattle.std.proofs.Common.{ap₂, ◌∙◌}
use Rattle.std.specs.Str.{bytes_eq}
use Rattle.am_silence.proofs.SameMatchers.{texts_tell, texts_test}
use Rattle.am_silence.proofs.update.same_matchers.Goals as goal

pub returns-clause-test : goal.returns-clause-test
returns-clause-test c =
    let is = c.eq.ensures ∙ ap₂ bytes_eq c.as_text.ensures.text c.as_text-2.ensures.text in
    texts_test c.args.posted c.args.held c.as_text.ensures.values c.as_text-2.ensures.values c.as_text.ensures.short c.as_text-2.ensures.short _ is

pub returns-clause-equal : goal.returns-clause-equal
returns-clause-equal c =
    let is = c.eq.ensures ∙ ap₂ bytes_eq c.as_text.ensures.text c.as_text-2.ensures.text in
    texts_tell c.args.posted c.args.held c.as_text.ensures.values c.as_text-2.ensures.values c.as_text.ensures.short c.as_text-2.ensures.short _ is
