use Rattle.std.proofs.Common.{◌∙◌}
use Rattle.am_matcher.proofs.Uses.{first_passes, others_pass}
use Rattle.am_matcher.proofs.entries.mark_all.Goals as goal

pub loop-matcher-preserved : goal.loop-matcher-preserved
loop-matcher-preserved c =
    let before = c.loop-matcher.invariant in
    let first = c.in-Some.ensures.steps in record {
      same = c.mark.ensures.same ∙ before.same;
      rest = λ test pass. others_pass first test (before.rest test pass);
      used = λ test pass marked. c.mark.ensures.used test (first_passes first test (before.rest test pass)) (before.used test pass marked);
    }
