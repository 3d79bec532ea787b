use Rattle.am_cluster.proofs.journal.Journal.consistency.Goals as goal

pub returns-clause-silences : goal.returns-clause-silences
returns-clause-silences c = rw (← c.self.view_is) c.consistency.ensures.values

pub returns-clause-log : goal.returns-clause-log
returns-clause-log c = rw (← c.self.view_is) c.consistency-2.ensures.values
