use Rattle.std.proofs.Common.{is_ok}
use Rattle.am_store.proofs.Calls.{written, write_crash, elapses, cause}
use Rattle.am_store.proofs.log_file.LogFileDevice.write_at.Goals as goal

pub returns-clause-written : goal.returns-clause-written
returns-clause-written g c = rw c.noted.ensures.note (written (g.S.Start.held c.args.self.now.start) c.args.self.now.log.events c.args.at c.args.bytes.now c.noted.result)

pub returns-clause-crash : goal.returns-clause-crash
returns-clause-crash g c = rw c.noted.ensures.note (write_crash (g.S.Start.held c.args.self.now.start) c.args.self.now.log.events c.args.at c.args.bytes.now (is_ok c.noted.result) c.requires)

pub returns-clause-time : goal.returns-clause-time
returns-clause-time g c = rw c.noted.ensures.note (elapses (g.S.Start.held c.args.self.now.start) c.args.self.now.log.events (1, c.args.at, is_ok c.noted.result, c.args.bytes.now))

pub returns-clause-cause : goal.returns-clause-cause
returns-clause-cause g c = rw c.noted.ensures.note (cause (g.S.Start.held c.args.self.now.start) c.args.self.now.log.events 1 c.args.at c.args.bytes.now c.noted.result c.noted.ensures.failed)
