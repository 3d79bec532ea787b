use Rattle.std.proofs.Common.{◌+◌, true, sym, ◌∙◌, subst, arith}
use Rattle.std.specs.Prelude.{IsOk}
use Rattle.am_merge.specs.Cursors.{place}
use Rattle.am_merge.specs.Places.{IsGapFor}
use Rattle.am_merge.specs.Stores.{versions}
use Rattle.am_merge.specs.Takings.{new_keys, new_versions}
use Rattle.am_merge.proofs.Keys.{key_order}
use Rattle.am_merge.proofs.Steps.{one_key, versions_by, fewer_rooms}
use Rattle.am_merge.proofs.changes.put.Goals as goal

pub returns-in_err-put_new-in-Err-clause-succeeds : goal.returns-in_err-put_new-in-Err-clause-succeeds
returns-in_err-put_new-in-Err-clause-succeeds g c = λ had.
    let gap = subst (λ k. IsGapFor g.V.Version.seen g.V.Key.Ord.cmp (versions c.args.store.now) k (place c.args.store.now.keys c.in-Err.cursor)) c.key.ensures c.in-Err.ensures.absent.gap in
    let keys = one_key g.V.Version.seen g.V.Key.Ord.cmp (key_order g.met.V.Key.Ord.total g.met.V.Version.exact_keys) (versions c.args.store.now) c.args.version (place c.args.store.now.keys c.in-Err.cursor) gap in
    let all = versions_by g.V.Version.seen g.V.Key.Ord.cmp (key_order g.met.V.Key.Ord.total g.met.V.Version.exact_keys) (versions c.args.store.now) c.args.version true c.put_new.ensures.new in
    let never = subst IsOk c.in_err-put_new-in-Err.was (c.put_new.ensures.succeeds (fewer_rooms c.args.store.now (new_keys g.V.Version.seen g.V.Key.Ord.cmp (versions c.args.store.now) c.args.version) (new_versions g.V.Version.seen g.V.Key.Ord.cmp (versions c.args.store.now) c.args.version) 1 1 (omega arith) (omega arith) had)) in
    absurd cc

pub returns-in_err-put_new-in-Err-clause-room : goal.returns-in_err-put_new-in-Err-clause-room
returns-in_err-put_new-in-Err-clause-room g c = λ n m had.
    let gap = subst (λ k. IsGapFor g.V.Version.seen g.V.Key.Ord.cmp (versions c.args.store.now) k (place c.args.store.now.keys c.in-Err.cursor)) c.key.ensures c.in-Err.ensures.absent.gap in
    let keys = one_key g.V.Version.seen g.V.Key.Ord.cmp (key_order g.met.V.Key.Ord.total g.met.V.Version.exact_keys) (versions c.args.store.now) c.args.version (place c.args.store.now.keys c.in-Err.cursor) gap in
    let all = versions_by g.V.Version.seen g.V.Key.Ord.cmp (key_order g.met.V.Key.Ord.total g.met.V.Version.exact_keys) (versions c.args.store.now) c.args.version true c.put_new.ensures.new in
    c.put_new.ensures.room n m (fewer_rooms c.args.store.now (n + new_keys g.V.Version.seen g.V.Key.Ord.cmp (versions c.args.store.now) c.args.version) (m + new_versions g.V.Version.seen g.V.Key.Ord.cmp (versions c.args.store.now) c.args.version) (n + 1) (m + 1) (omega arith) (omega arith) had)

pub returns-in_ok-put_over-in-Ok-clause-room : goal.returns-in_ok-put_over-in-Ok-clause-room
returns-in_ok-put_over-in-Ok-clause-room g c = λ n m had.
    let all = versions_by g.V.Version.seen g.V.Key.Ord.cmp (key_order g.met.V.Key.Ord.total g.met.V.Version.exact_keys) (versions c.args.store.now) c.args.version true (sym c.is_greater-greater.ensures.answer ∙ c.if-greater.true) in
    c.put_over.ensures.room n m (fewer_rooms c.args.store.now (n + new_keys g.V.Version.seen g.V.Key.Ord.cmp (versions c.args.store.now) c.args.version) (m + new_versions g.V.Version.seen g.V.Key.Ord.cmp (versions c.args.store.now) c.args.version) n (m + 1) (omega arith) (omega arith) had)

pub returns-in_ok-put_new-in-Err-clause-room : goal.returns-in_ok-put_new-in-Err-clause-room
returns-in_ok-put_new-in-Err-clause-room g c = λ n m had.
    let gap = subst (λ k. IsGapFor g.V.Version.seen g.V.Key.Ord.cmp (versions c.args.store.now) k (place c.args.store.now.keys c.in-Err.cursor)) c.key.ensures c.in-Err.ensures.absent.gap in
    let keys = one_key g.V.Version.seen g.V.Key.Ord.cmp (key_order g.met.V.Key.Ord.total g.met.V.Version.exact_keys) (versions c.args.store.now) c.args.version (place c.args.store.now.keys c.in-Err.cursor) gap in
    let all = versions_by g.V.Version.seen g.V.Key.Ord.cmp (key_order g.met.V.Key.Ord.total g.met.V.Version.exact_keys) (versions c.args.store.now) c.args.version true c.put_new.ensures.new in
    c.put_new.ensures.room n m (fewer_rooms c.args.store.now (n + new_keys g.V.Version.seen g.V.Key.Ord.cmp (versions c.args.store.now) c.args.version) (m + new_versions g.V.Version.seen g.V.Key.Ord.cmp (versions c.args.store.now) c.args.version) (n + 1) (m + 1) (omega arith) (omega arith) had)
