use Rattle.std.proofs.Common.{sym, ◌∙◌}
use Rattle.am_instance.specs.Replies.{listed}
use Rattle.am_cluster.proofs.RoundTrip.{silences_parted, entries_parted}
use Rattle.am_cluster.proofs.recording.all_made.Goals as goal

pub returns-clause-silences : goal.returns-clause-silences
returns-clause-silences c = sym (silences_parted c.args.made.silences.items (listed c.args.made.log))

pub returns-clause-log : goal.returns-clause-log
returns-clause-log c = c.entry_made-log.ensures ∙ sym (entries_parted c.args.made.silences.items (listed c.args.made.log))
