use Rattle.am_dedup.specs.Decisions.{set_of}
use Rattle.am_instance.specs.Replies.{entry_in_view}
use Rattle.am_cluster.specs.Questions.{key_of}
use Rattle.am_cluster.specs.Replicas.{entries_taken}
use Rattle.am_cluster.proofs.Asking.{told_first}
use Rattle.am_cluster.proofs.laws.first.first_is_told_exactly.Goals as goal

pub returns : goal.returns
returns c = λ place now asked reply made replica found by answered.
    told_first (entries_taken c.args.cluster.now place) now (key_of asked) (entry_in_view now replica.stand.log (key_of asked)) (set_of asked.firing) (set_of asked.resolved) asked.repeat asked.send_resolved reply
    (c.members_show_the_bare_sets.ensures.log place now (key_of asked) replica found by) answered.0
