use Rattle.std.proofs.Common.{◌≡◌, true, sym, ◌∙◌, rules}
use Rattle.slab.specs.Slab.{get}
use Rattle.am_merge.specs.Rows.{entries}
use Rattle.am_version_order.specs.Versions.{is_live}
use Rattle.am_merge.specs.Stores.{versions}
use Rattle.am_merge.proofs.Firsts.{swept_all, live_from, expired_from, first_least, first_named, none_first, each_version, if_none}
use Rattle.am_merge.proofs.changes.expired.Goals as goal

pub returns-in_err-first-clause-none : goal.returns-in_err-first-clause-none
returns-in_err-first-clause-none g c =
    let none = sym c.first.ensures ∙ c.in_err-first.was in
    if_none c.from_residual.result (swept_all g.V.Version.seen c.args.now (versions c.args.store.now)
    (each_version g.V.Version.seen (get c.args.store.now.table) g.V.Version.head_of g.V.Key.Ord.cmp (entries c.args.store.now.keys) c.requires.keys (λ v. is_live c.args.now (g.V.Version.seen v) ≡ true)
    (λ s v there. absurd (none_first g.V.Version.seen (get c.args.store.now.table) (entries c.args.store.now.expiries) s v c.requires.expiries none there))))

pub returns-then-lt-clause-none : goal.returns-then-lt-clause-none
returns-then-lt-clause-none g c =
    let first = sym c.first.ensures ∙ c.in_ok-first.was in
    swept_all g.V.Version.seen c.args.now (versions c.args.store.now)
    (each_version g.V.Version.seen (get c.args.store.now.table) g.V.Version.head_of g.V.Key.Ord.cmp (entries c.args.store.now.keys) c.requires.keys (λ v. is_live c.args.now (g.V.Version.seen v) ≡ true)
    (λ s v there. live_from g.V.Version.seen c.args.now v c.in_ok-first.first.expires (search rules) (first_least g.V.Version.seen (get c.args.store.now.table) (entries c.args.store.now.expiries) c.in_ok-first.first s v c.requires.expiries first there)))

pub returns-else-lt-clause-first : goal.returns-else-lt-clause-first
returns-else-lt-clause-first g c =
    let first = sym c.first.ensures ∙ c.in_ok-first.was in
    let named = first_named g.V.Version.seen (get c.args.store.now.table) (entries c.args.store.now.expiries) c.in_ok-first.first c.requires.expiries first in
    record { version = named.0; there = named.1; expired = expired_from g.V.Version.seen c.args.now named.0 c.in_ok-first.first.expires (search rules) named.2 }
