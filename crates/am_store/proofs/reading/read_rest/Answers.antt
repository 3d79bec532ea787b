use Rattle.std.proofs.Common.{List, sym, subst}
use Rattle.std.specs.Prelude.{IfSome}
use Rattle.std.proofs.lemmas.Result.{IfOk-weaker}
use Rattle.am_merge.proofs.Keys.{key_order}
use Rattle.am_store.proofs.Joining.{holds_itself}
use Rattle.am_store.proofs.Taken.{kept_none, kept_more, kept_all}
use Rattle.am_store.specs.Logs.{JoinsLog, ReadsOn}
use Rattle.am_store.proofs.reading.read_rest.Goals as goal

pub blocks-2-init : goal.blocks-2-init
blocks-2-init g c =
    let keys = key_order g.met.V.Key.Ord.total g.met.V.Version.exact_keys in
    (kept_none g.V.Version.seen (g.V.Message.reads c.args.unknown) (g.R.Read.remaining c.args.reader.now) c.args.builder (holds_itself g.V.Version.seen g.V.Key.Ord.cmp keys c.args.builder c.requires), c.requires)

pub blocks-2-preserved : goal.blocks-2-preserved
blocks-2-preserved g c =
    let start = g.R.Read.remaining c.args.reader.now in
    let is_next = rw c.in-Ok-Some.field-0-is at c.in-Ok-Some.ensures.batch in
    let read = subst (λ batch. ReadsOn g.V.Version.seen (g.V.Message.reads c.args.unknown) c.blocks-2.builder batch c.read_on.new.builder) c.deref.ensures.value c.in_ok-read_on-in-Ok-Some.ensures.read in
    (kept_more g.V.Version.seen (g.V.Message.reads c.args.unknown) start c.args.builder _ _ c.in-Ok-Some.batch.items c.blocks-2.builder c.read_on.new.builder c.blocks-2.invariant.0 is_next read, c.in_ok-read_on-in-Ok-Some.ensures.order)

pub returns-in-Ok-None : goal.returns-in-Ok-None
returns-in-Ok-None g c =
    let start = g.R.Read.remaining c.args.reader.now in
    let last = c.in-Ok-None.ensures.last c.in-Ok-None.field-0-is in
    let joins : List g.row.V.Denot → Type 0 = λ held. IfSome start (λ log. JoinsLog g.V.Version.seen (g.V.Message.reads c.args.unknown) c.args.builder log held) in
    IfOk-weaker c.build.result _ joins
    (λ held same. subst joins (sym same) (kept_all g.V.Version.seen (g.V.Message.reads c.args.unknown) start c.args.builder _ _ c.blocks-2.builder c.blocks-2.invariant.0 last)) c.build.ensures
