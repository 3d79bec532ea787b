use Rattle.std.proofs.Common.{[]}
use Rattle.am_merge.proofs.Keys.{key_order}
use Rattle.am_snapshot.proofs.Bests.{IsBestAt-nil}
use Rattle.am_snapshot.proofs.RowReads.{reads_none}
use Rattle.am_wire.specs.Limits.{most}
use Rattle.am_alertmanager.proofs.Begun.{as_read}
use Rattle.am_alertmanager.proofs.reading.begin_row.Goals as goal

pub returns : goal.returns
returns g c = λ unknown start.
    let keys = key_order g.met.V.Key.Ord.total g.met.V.Version.exact_keys in
    rw c.new-held.ensures (as_read (g.V.Message.reads unknown) g.V.Version.seen g.V.Key.Ord.cmp start start _ [] [] [] (reads_none (g.V.Message.reads unknown) most start _ c.new-rows.ensures) tt (IsBestAt-nil g.V.Version.seen g.V.Key.Ord.cmp keys))
