use Rattle.std.proofs.Common.{ap, ◌∙◌}
use Rattle.am_silence_json.specs.Listing.{Listed}
use Rattle.am_silence_json.proofs.Stretches.{all_written, alone}
use Rattle.am_silence_json.proofs.listing.Listing.finish.Goals as goal

pub returns : goal.returns
returns c =
    let added = rw c.deref.ensures.value at c.in_ok-add_each_silence.ensures in
    let all = all_written c.self.inside.rows.items c.args.self.rows c.self.inside.count _ _ (ap (λ (l : Listed). l.rows) c.self.view_is) c.self.invariant.within c.self.invariant.written added in
    (all.0, all.1, alone _ _ _ (added.2.before ∙ c.self.invariant.alone) (c.in_ok-body.ensures all.0 all.2))
