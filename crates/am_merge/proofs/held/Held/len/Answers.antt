use Rattle.std.proofs.Common.{◌∙◌}
use Rattle.am_merge.proofs.Keys.{key_order}
use Rattle.am_merge.proofs.Steps.{count_is}
use Rattle.am_merge.proofs.held.Held.len.Goals as goal

pub returns : goal.returns
returns g c = rw (← c.self.view_is) (c.len.ensures ∙ count_is g.V.Version.seen g.V.Version.head_of g.V.Key.Ord.cmp (key_order g.met.V.Key.Ord.total g.met.V.Version.exact_keys) g.V.Version.bucket_of c.self.inside.store c.self.invariant.0)
