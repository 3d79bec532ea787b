use Rattle.am_merge.proofs.Keys.{key_order}
use Rattle.am_snapshot.proofs.ReadAgain.{read_back, whole_savable}
use Rattle.am_snapshot.proofs.Saved.{saved_loaded, loaded_saved, saved_sound}
use Rattle.am_snapshot.proofs.laws.what_is_saved_is_loaded.Goals as goal

pub returns-clause-loaded : goal.returns-clause-loaded
returns-clause-loaded g c unknown limit map savable stay =
    let keys = key_order g.met.V.Key.Ord.total g.met.V.Version.exact_keys in
    let back = read_back g.V.Version.seen g.V.Message.plain g.V.Message.reads g.met.V.Message.dropped unknown g.V.Message.writes g.V.Version.is_value g.V.Message.is_value
    g.met.V.Message.round_trip g.met.V.Record.written in
    saved_loaded g.V.Version.seen g.V.Key.Ord.cmp keys (g.V.Message.reads unknown) _ limit back map (whole_savable g.V.Version.seen g.V.Key.Ord.cmp g.V.Version.is_value _ limit map savable stay)

pub returns-clause-alone : goal.returns-clause-alone
returns-clause-alone g c unknown limit map held savable stay order loaded =
    let keys = key_order g.met.V.Key.Ord.total g.met.V.Version.exact_keys in
    let back = read_back g.V.Version.seen g.V.Message.plain g.V.Message.reads g.met.V.Message.dropped unknown g.V.Message.writes g.V.Version.is_value g.V.Message.is_value
    g.met.V.Message.round_trip g.met.V.Record.written in
    loaded_saved g.V.Version.seen g.V.Key.Ord.cmp keys (g.V.Message.reads unknown) _ limit back map (whole_savable g.V.Version.seen g.V.Key.Ord.cmp g.V.Version.is_value _ limit map savable stay) held order loaded

pub returns-clause-sound : goal.returns-clause-sound
returns-clause-sound g c unknown limit map left e savable stay stop =
    let keys = key_order g.met.V.Key.Ord.total g.met.V.Version.exact_keys in
    let back = read_back g.V.Version.seen g.V.Message.plain g.V.Message.reads g.met.V.Message.dropped unknown g.V.Message.writes g.V.Version.is_value g.V.Message.is_value
    g.met.V.Message.round_trip g.met.V.Record.written in
    saved_sound g.V.Version.seen g.V.Key.Ord.cmp keys (g.V.Message.reads unknown) _ limit back map (whole_savable g.V.Version.seen g.V.Key.Ord.cmp g.V.Version.is_value _ limit map savable stay) left e stop
