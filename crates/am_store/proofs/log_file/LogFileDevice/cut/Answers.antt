use Rattle.std.proofs.Common.{[], is_ok}
use Rattle.am_store.proofs.Calls.{is_cut, cut_crash, elapses, cause}
use Rattle.am_store.proofs.log_file.LogFileDevice.cut.Goals as goal

pub returns-clause-cut : goal.returns-clause-cut
returns-clause-cut g c = rw c.noted.ensures.note (is_cut (g.S.Start.held c.args.self.now.start) c.args.self.now.log.events c.args.len [] c.noted.result)

pub returns-clause-crash : goal.returns-clause-crash
returns-clause-crash g c = rw c.noted.ensures.note (cut_crash (g.S.Start.held c.args.self.now.start) c.args.self.now.log.events c.args.len [] (is_ok c.noted.result) c.requires)

pub returns-clause-time : goal.returns-clause-time
returns-clause-time g c = rw c.noted.ensures.note (elapses (g.S.Start.held c.args.self.now.start) c.args.self.now.log.events (2, c.args.len, is_ok c.noted.result, []))

pub returns-clause-cause : goal.returns-clause-cause
returns-clause-cause g c = rw c.noted.ensures.note (cause (g.S.Start.held c.args.self.now.start) c.args.self.now.log.events 2 c.args.len [] c.noted.result c.noted.ensures.failed)
