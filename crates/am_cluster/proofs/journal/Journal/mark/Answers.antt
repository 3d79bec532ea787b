use Rattle.am_cluster.proofs.journal.Journal.mark.Goals as goal

pub append-requires-clause-possible_log : goal.append-requires-clause-possible_log
append-requires-clause-possible_log c =
    rw c.step-2.ensures (c.marks_are_told_of_both.ensures.possible c.args.self.now.members c.args.self.now.silences c.args.self.now.log c.args.mark c.is_told_of_both.ensures.twins c.requires.possible)
