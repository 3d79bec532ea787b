use Rattle.std.proofs.Common.{[], is_ok}
use Rattle.am_store.proofs.Calls.{durable, sync_seen, sync_crash, elapses, cause}
use Rattle.am_store.proofs.log_file.LogFileDevice.sync.Goals as goal

pub returns-clause-durable : goal.returns-clause-durable
returns-clause-durable g c = rw c.noted.ensures.note (durable (g.S.Start.held c.args.self.now.start) c.args.self.now.log.events 0 [] c.noted.result)

pub returns-clause-seen : goal.returns-clause-seen
returns-clause-seen g c = rw c.noted.ensures.note (sync_seen (g.S.Start.held c.args.self.now.start) c.args.self.now.log.events 0 [] (is_ok c.noted.result))

pub returns-clause-crash : goal.returns-clause-crash
returns-clause-crash g c = rw c.noted.ensures.note (sync_crash (g.S.Start.held c.args.self.now.start) c.args.self.now.log.events 0 [] (is_ok c.noted.result))

pub returns-clause-time : goal.returns-clause-time
returns-clause-time g c = rw c.noted.ensures.note (elapses (g.S.Start.held c.args.self.now.start) c.args.self.now.log.events (0, 0, is_ok c.noted.result, []))

pub returns-clause-cause : goal.returns-clause-cause
returns-clause-cause g c = rw c.noted.ensures.note (cause (g.S.Start.held c.args.self.now.start) c.args.self.now.log.events 0 0 [] c.noted.result c.noted.ensures.failed)
