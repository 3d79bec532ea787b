use Rattle.std.proofs.Common.{ap, ◌∙◌}
use Rattle.std.specs.Ordering.{is_lt}
use Rattle.am_merge.specs.Cursors.{place}
use Rattle.am_merge.specs.Stores.{versions}
use Rattle.am_merge.proofs.Keys.{key_order}
use Rattle.am_merge.proofs.Steps.{judged}
use Rattle.am_merge.proofs.changes.is_greater.Goals as goal

pub returns : goal.returns
returns g c =
    let at = c.requires.cursor.place in
    let w = c.version_at.result.now in
    let found = judged g.V.Version.seen g.V.Key.Ord.cmp (key_order g.met.V.Key.Ord.total g.met.V.Version.exact_keys) (versions c.args.store.now) (place c.args.store.now.keys c.args.cursor) c.args.version.now w c.requires.keyed.index.order at.in_range c.version_at.ensures
    (ap (λ x. (g.V.Version.seen x).key) c.version_at.ensures ∙ at.here w) c.is_lt.result (c.is_lt.ensures ∙ ap is_lt c.compare.ensures) in
    record { answer = found.0; kept = found.1.0; over = found.1.1 }
