use Rattle.std.proofs.Common.{ap, ◌∙◌}
use Rattle.std.specs.Prelude.{◌==◌}
use Rattle.am_merge.proofs.Keys.{key_order}
use Rattle.am_merge.proofs.Steps.{count_is}
use Rattle.am_merge.proofs.held.Held.is_empty.Goals as goal

pub returns : goal.returns
returns g c = rw (← c.self.view_is) (c.is_empty.ensures ∙ ap (λ n. n == 0) (count_is g.V.Version.seen g.V.Version.head_of g.V.Key.Ord.cmp (key_order g.met.V.Key.Ord.total g.met.V.Version.exact_keys) g.V.Version.bucket_of c.self.inside.store c.self.invariant.0))
