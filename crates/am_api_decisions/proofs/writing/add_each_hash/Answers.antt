use Rattle.std.proofs.Common.{◌∙◌}
use Rattle.am_api_decisions.specs.Hashes.{hash_data}
use Rattle.am_api_decisions.proofs.Adding.{value_more}
use Rattle.am_api_decisions.proofs.writing.add_each_hash.Goals as goal

pub loop-hash-preserved : goal.loop-hash-preserved
loop-hash-preserved c =
    let added = c.in_ok-add_hash.ensures in record {
      before = added.before ∙ c.loop-hash.invariant.before;
      tokens = value_more hash_data c.in-Some.ensures.steps added ∙ c.loop-hash.invariant.tokens;
    }
