use Rattle.std.proofs.Common.{◌++◌, ◌∷◌, [], List, refl, sym, subst, ◌∙◌}
use Rattle.am_merge.specs.Maps.{at}
use Rattle.am_merge.specs.Views.{HoldsBest}
use Rattle.am_merge.proofs.Keys.{key_order}
use Rattle.am_snapshot.proofs.Bests.{IsBestAt-more, holds_best}
use Rattle.am_snapshot.proofs.Rows.{gives_ok, reads_none, reads_more, reads_all}
use Rattle.am_store.proofs.Joining.{itself_at}
use Rattle.am_store.proofs.reading.read_batch.Goals as goal

pub loop-message-init : goal.loop-message-init
loop-message-init g c =
    let keys = key_order g.met.V.Key.Ord.total g.met.V.Version.exact_keys in
    let map = c.args.builder.now in (
      map,
      reads_none (g.V.Message.reads c.args.unknown) c.args.batch.now map _ (sym (c.into_iter-message-iterator.ensures.into_iter_gives ∙ c.within-message-items.ensures)),
      c.requires,
      λ key. itself_at g.V.Version.seen g.V.Key.Ord.cmp keys map c.requires key (at g.V.Version.seen g.V.Key.Ord.cmp map key) refl,
    )

pub loop-message-preserved : goal.loop-message-preserved
loop-message-preserved g c =
    let keys = key_order g.met.V.Key.Ord.total g.met.V.Version.exact_keys in
    let (set, so_far, _, best) = c.loop-message.invariant in
    let next = gives_ok c.loop-message.message-iterator c.next.new.self c.in-Some.message c.in_ok-version.version c.in-Some.ensures.steps c.in_ok-version.was in
    let put = c.in_ok-take.ensures.taken in
    let more = set ++ c.in_ok-version.version ∷ [] in (
      more,
      reads_more (g.V.Message.reads c.args.unknown) c.args.batch.now c.args.builder.now c.loop-message.message-iterator c.next.new.self set more c.in_ok-version.version so_far next refl,
      put.order,
      IsBestAt-more g.V.Version.seen g.V.Key.Ord.cmp keys set c.loop-message.builder c.take.new.self c.in_ok-version.version put.joined best,
    )

pub returns-clause-read : goal.returns-clause-read
returns-clause-read g c =
    let keys = key_order g.met.V.Key.Ord.total g.met.V.Version.exact_keys in
    let (set, so_far, map, best) = c.loop-message.invariant in
    let (versions, all, behind) = reads_all (g.V.Message.reads c.args.unknown) c.args.batch.now c.args.builder.now _ set so_far c.in-None.ensures.steps.0 in
    record {
      versions = versions;
      all = all;
      best = subst (λ (all : List g.row.V.Denot). HoldsBest g.V.Version.seen all c.loop-message.builder) behind (holds_best g.V.Version.seen g.V.Key.Ord.cmp keys set c.loop-message.builder map best);
    }
