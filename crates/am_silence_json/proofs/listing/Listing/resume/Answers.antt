use Rattle.std.proofs.Common.{◌≤◌, ◌∙◌, arith}
use Rattle.am_silence_json.proofs.Stretches.{stretch_written}
use Rattle.am_silence_json.proofs.listing.Listing.resume.Goals as goal

pub invariant_of-result : goal.invariant_of-result
invariant_of-result c =
    let added = rw c.deref.ensures.value at c.in_ok-add_each_silence.ensures in
    let later : c.self.inside.count ≤ c.min-end.result = omega arith in record {
      within = omega arith;
      alone = added.2.before ∙ c.self.invariant.alone;
      written = stretch_written c.self.inside.rows.items c.self.inside.count c.min-end.result _ _ later c.self.invariant.written added;
    }
