use Rattle.std.proofs.Common.{sym, ◌∙◌}
use Rattle.slab.specs.Slab.{get}
use Rattle.am_merge.specs.Rows.{entries}
use Rattle.am_merge.specs.Cursors.{place}
use Rattle.am_merge.specs.Stores.{versions}
use Rattle.am_merge.proofs.Keys.{key_order}
use Rattle.am_merge.proofs.Stores.{versions_length}
use Rattle.am_merge.proofs.Steps.{end_gap, end_insert, on_ok}
use Rattle.am_merge.proofs.changes.append.Goals as goal

pub put_new-requires-clause-cursor : goal.put_new-requires-clause-cursor
put_new-requires-clause-cursor g c =
    record {
      within = c.end-end.ensures.within;
      gap = end_gap g.V.Version.seen g.V.Key.Ord.cmp (key_order g.met.V.Key.Ord.total g.met.V.Version.exact_keys) (versions c.args.store.now) c.args.version (place c.args.store.now.keys c.end-end.result) (c.end-end.ensures.end ∙ sym (versions_length g.V.Version.seen g.V.Version.head_of g.V.Key.Ord.cmp (key_order g.met.V.Key.Ord.total g.met.V.Version.exact_keys) (get c.args.store.now.table) (entries c.args.store.now.keys) c.requires.store.keys)) c.requires.last;
    }

pub returns-clause-appended : goal.returns-clause-appended
returns-clause-appended g c =
    on_ok (λ added. added ∙ end_insert (versions c.args.store.now) c.args.version (place c.args.store.now.keys c.end-end.result) (c.end-end.ensures.end ∙ sym (versions_length g.V.Version.seen g.V.Version.head_of g.V.Key.Ord.cmp (key_order g.met.V.Key.Ord.total g.met.V.Version.exact_keys) (get c.args.store.now.table) (entries c.args.store.now.keys) c.requires.store.keys))) c.put_new.result c.put_new.ensures.added
