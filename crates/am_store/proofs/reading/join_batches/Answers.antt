use Rattle.std.proofs.Common.{subst}
use Rattle.am_merge.proofs.Keys.{key_order}
use Rattle.am_store.proofs.Joining.{holds_itself}
use Rattle.am_store.proofs.Taken.{joined_first, joined_none}
use Rattle.am_store.specs.Logs.{ReadsOn}
use Rattle.am_store.proofs.reading.join_batches.Goals as goal

pub returns-in-Ok-Some : goal.returns-in-Ok-Some
returns-in-Ok-Some g c =
    let is_next = rw c.in-Ok-Some.field-0-is at c.in-Ok-Some.ensures.batch in
    let on_batch = subst (λ batch. ReadsOn g.V.Version.seen (g.V.Message.reads c.args.unknown) c.of-builder.result batch c.read_on.new.builder) c.deref.ensures.value c.in_ok-read_on-in-Ok-Some.ensures.read in
    let read = subst (λ before. ReadsOn g.V.Version.seen (g.V.Message.reads c.args.unknown) before c.in-Ok-Some.first.items c.read_on.new.builder) c.of-builder.ensures.same on_batch in
    joined_first g.V.Version.seen (g.V.Message.reads c.args.unknown) (g.R.Read.remaining c.args.reader.now) _ c.in-Ok-Some.first.items c.args.held.now c.read_on.new.builder _ is_next read c.in_ok-held-in-Ok-Some.ensures

pub returns-in-Ok-None : goal.returns-in-Ok-None
returns-in-Ok-None g c =
    let keys = key_order g.met.V.Key.Ord.total g.met.V.Version.exact_keys in
    let last = c.in-Ok-None.ensures.last c.in-Ok-None.field-0-is in
    joined_none g.V.Version.seen (g.V.Message.reads c.args.unknown) (g.R.Read.remaining c.args.reader.now) _ c.args.held.now last (holds_itself g.V.Version.seen g.V.Key.Ord.cmp keys c.args.held.now c.has_values.ensures.order)
