use Rattle.std.proofs.Common.{◌≡◌, ◌&&◌}
use Rattle.am_matcher.specs.Dialects.{are_labels}
use Rattle.am_matcher.proofs.label_names.are_labels.Given as goal

abbrev pub invariant-loop-matcher : goal.invariant-loop-matcher
invariant-loop-matcher l = (l.all && are_labels l.matcher-iterator) ≡ are_labels l.fn.matchers
