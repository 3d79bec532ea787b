use Rattle.std.proofs.Common.{◌+◌, set, sym, ◌∙◌, subst}
use Rattle.am_merge.specs.Cursors.{place_in}
use Rattle.am_merge.specs.Stores.{versions}
use Rattle.am_merge.specs.Takings.{IsPut}
use Rattle.am_merge.proofs.changes.put_over.Goals as goal

pub returns-clause-put : goal.returns-clause-put
returns-clause-put g c =
    subst (IsPut g.V.Version.seen g.V.Key.Ord.cmp (versions c.args.store.now) c.args.version)
    (sym (c.replace.ensures.replaced ∙ (λ i. set (c.reserve_over.ensures.versions i) (place_in (c.reserve_over.ensures.same.keys i) c.args.cursor) c.args.version)))
    c.requires.over

pub returns-clause-room : goal.returns-clause-room
returns-clause-room g c = λ n m had. c.replace.ensures.room n m (c.reserve_over.ensures.kept n (m + 1) had)
