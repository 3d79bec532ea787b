use Rattle.am_commands.proofs.RowStops.{loaded_stops, taken_stops}
use Rattle.am_commands.proofs.opened.take_or_load.Goals as goal

pub returns-in-Err-take_row_within-clause-stopped : goal.returns-in-Err-take_row_within-clause-stopped
returns-in-Err-take_row_within-clause-stopped g c =
    taken_stops g.V.Version.seen (g.V.Message.reads c.args.reading.unknown) c.args.reading.most c.args.reading.keys c.in-Repeated.is (g.R.Read.remaining c.args.row.now) _ _ c.in-Err-take_row_within.ensures.fault
    _ c.from.ensures

pub returns-in-Err-clause-stopped : goal.returns-in-Err-clause-stopped
returns-in-Err-clause-stopped g c =
    loaded_stops g.V.Version.seen (g.V.Message.reads c.args.reading.unknown) c.args.reading.most c.args.reading.keys c.in-Once.is (g.R.Read.remaining c.args.row.now) _ _ c.in-Err.ensures.stopped
