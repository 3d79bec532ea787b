use Rattle.std.proofs.Common.{◌∙◌}
use Rattle.am_silence_json.proofs.Rows.{matcher_more}
use Rattle.am_silence_json.proofs.gettable.add_each_matcher.Goals as goal

pub loop-matcher-preserved : goal.loop-matcher-preserved
loop-matcher-preserved c =
    let added = rw (c.kind.ensures, c.name.ensures, c.pattern.ensures) at c.in_ok-add_matcher.ensures in record {
      before = added.before ∙ c.loop-matcher.invariant.before;
      tokens = matcher_more c.in-Some.ensures.steps added ∙ c.loop-matcher.invariant.tokens;
    }
