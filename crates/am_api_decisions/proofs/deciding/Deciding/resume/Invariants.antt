use Rattle.std.proofs.Common.{◌≡◌, List, length}
use Rattle.std.specs.Vec.Iter.{into_iter_items, into_iter_len}
use Rattle.am_api_decisions.specs.Asking.{AskedAlert, IsAskedOn}
use Rattle.am_api_decisions.proofs.deciding.Deciding.resume.Given as goal

-- as many alerts were asked as the turns that are over
abbrev pub invariant-loop-count : goal.invariant-loop-count
invariant-loop-count l = (asked : List AskedAlert)
    × IsAskedOn l.now (into_iter_items l.initial.left) l.initial.tally l.initial.instance asked (into_iter_items l.left) l.tally l.instance
    × (length asked ≡ l._count) × (into_iter_len l.left ≡ length (into_iter_items l.left))
