use Rattle.std.proofs.Common.{◌++◌, ◌∷◌, [], ℕ, Bool, ap, subst, sym, List, Result, Ok}
use Rattle.std.specs.Prelude.{⊤, IsPermutation}
use Rattle.std.specs.declared.alloc.AllocError.{AllocError}
use Rattle.std.proofs.lemmas.Result.{err_from_is_err_and}
use Rattle.std.proofs.lemmas.List.Sorted.{IsPermutation-refl}
use Rattle.am_merge.specs.Maps.{at}
use Rattle.am_merge.proofs.Keys.{key_order}
use Rattle.am_snapshot.specs.Loads.{AreDistinct}
use Rattle.am_snapshot.proofs.Inserts.{distinct_none, members_more, distinct_more, earlier}
use Rattle.am_snapshot.proofs.RowReads.{reads_none, reads_more, reads_end, reads_stop_with}
use Rattle.am_snapshot.proofs.Stops.{always, some_found, none_found, load_reading, load_end, load_repeat}
use Rattle.am_snapshot.proofs.loading.load_within.Goals as goal

abbrev answered : Bool → Result Bool AllocError
answered b = Ok b

pub loop-rows-init : goal.loop-rows-init
loop-rows-init g c =
    rw c.new-builder.ensures ([], [], reads_none (g.V.Message.reads c.args.unknown) _ _ _ c.within-rows.ensures, tt, IsPermutation-refl [], distinct_none g.V.Version.seen)

pub returns-in_err-version-clause-stopped : goal.returns-in_err-version-clause-stopped
returns-in_err-version-clause-stopped g c =
    let p = err_from_is_err_and c.from_residual.result c.from_residual.ensures.1 in
    let (bytes, versions, so_far, _, _, distinct) = c.loop-rows.invariant in
    let (row, read, answer) = c.in_err-version.ensures in
    rw (p.1, p.2) (load_reading g.V.Version.seen (g.V.Message.reads c.args.unknown) _ _ _ c.in_err-version.field-0.0
    (reads_stop_with (g.V.Message.reads c.args.unknown) _ _ _ _ _ _ bytes row versions so_far read (λ (all : List g.row.V.Denot). AreDistinct g.V.Version.seen all) distinct _ answer))

pub returns-then-not-is_new-clause-stopped : goal.returns-then-not-is_new-clause-stopped
returns-then-not-is_new-clause-stopped g c =
    let keys = key_order g.met.V.Key.Ord.total g.met.V.Version.exact_keys in
    let (bytes, versions, so_far, _, members, distinct) = c.loop-rows.invariant in
    let (row, read, answer) = rw c.in-Some.is at c.in_ok-version.ensures in
    let one = reads_more (g.V.Message.reads c.args.unknown) _ _ _ _ _ _ bytes row versions so_far read _ answer in
    let found = some_found (at g.V.Version.seen g.V.Key.Ord.cmp c.loop-rows.builder (g.V.Version.seen c.in-Some.version).key) c.in_ok-is_new.is_new c.in_ok-is_new.ensures.answer c.if-not-is_new.true in
    let was = earlier g.V.Version.seen g.V.Key.Ord.cmp keys versions c.loop-rows.builder _ found.0 members found.1 in
    load_repeat g.V.Version.seen (g.V.Message.reads c.args.unknown) _ _ _ _ (bytes ++ row) versions c.in-Some.version found.0 one distinct was.1 was.0

pub loop-rows-preserved : goal.loop-rows-preserved
loop-rows-preserved g c =
    let keys = key_order g.met.V.Key.Ord.total g.met.V.Version.exact_keys in
    let (bytes, versions, so_far, map, members, distinct) = c.loop-rows.invariant in
    let (row, read, answer) = rw c.in-Some.is at c.in_ok-version.ensures in
    let new = c.if-not-is_new.false in
    let put = c.in_ok-is_new.ensures.put (ap (λ (b : Bool). answered b) new) in
    let none = none_found (at g.V.Version.seen g.V.Key.Ord.cmp c.loop-rows.builder (g.V.Version.seen c.in-Some.version).key) c.in_ok-is_new.is_new c.in_ok-is_new.ensures.answer new in (
      bytes ++ row,
      versions ++ c.in-Some.version ∷ [],
      reads_more (g.V.Message.reads c.args.unknown) _ _ _ _ _ _ bytes row versions so_far read _ answer,
      put.order,
      members_more g.V.Version.seen g.V.Key.Ord.cmp keys c.loop-rows.builder c.insert_new.new.self c.in-Some.version map put.order put.joined none versions members,
      distinct_more g.V.Version.seen g.V.Key.Ord.cmp keys c.loop-rows.builder c.insert_new.new.self c.in-Some.version map put.order put.joined none versions members distinct,
    )

pub returns-clause-members : goal.returns-clause-members
returns-clause-members g c =
    let (bytes, versions, so_far, _, members, distinct) = c.loop-rows.invariant in
    let (row, read, answer) = rw c.in_default.is at c.in_ok-version.ensures in
    load_end g.V.Version.seen (g.V.Message.reads c.args.unknown) _ (g.R.Read.remaining c.next_by.new.reader) versions c.in_ok-held.held (reads_end (g.V.Message.reads c.args.unknown) _ _ _ _ _ _ bytes row versions so_far read answer).1 distinct (subst (λ (l : List g.row.V.Denot). IsPermutation versions l) (sym c.in_ok-held.ensures) members)

pub returns-clause-size : goal.returns-clause-size
returns-clause-size g c =
    let (bytes, versions, so_far, _, _, _) = c.loop-rows.invariant in
    let (row, read, answer) = rw c.in_default.is at c.in_ok-version.ensures in
    (reads_end (g.V.Message.reads c.args.unknown) _ _ _ _ _ _ bytes row versions so_far read answer).2

pub returns-in_err-is_new-clause-stopped : goal.returns-in_err-is_new-clause-stopped
returns-in_err-is_new-clause-stopped g c =
    let p = err_from_is_err_and c.from_residual-in_err-is_new.result c.from_residual-in_err-is_new.ensures.1 in
    rw (p.1, p.2) (always (λ (input : List ℕ). ⊤) (λ input. tt) _)

pub returns-clause-end : goal.returns-clause-end
returns-clause-end g c =
    let (bytes, versions, so_far, _, _, _) = c.loop-rows.invariant in
    let (row, read, answer) = rw c.in_default.is at c.in_ok-version.ensures in
    (reads_end (g.V.Message.reads c.args.unknown) _ _ _ _ _ _ bytes row versions so_far read answer).0
