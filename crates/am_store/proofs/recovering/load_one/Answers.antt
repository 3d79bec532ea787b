use Rattle.am_merge.proofs.Keys.{key_order}
use Rattle.am_store.proofs.Together.{loads}
use Rattle.am_store.proofs.recovering.load_one.Goals as goal

pub returns : goal.returns
returns g c =
    let keys = key_order g.met.V.Key.Ord.total g.met.V.Version.exact_keys in
    loads g.V.Version.seen g.V.Key.Ord.cmp keys (g.V.Message.reads c.args.unknown) (g.R.Read.remaining c.args.reader.now) c.in_ok-load_within.field-0 c.in_ok-load_within.ensures.order c.in_ok-load_within.ensures.members
