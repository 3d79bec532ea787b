use Rattle.am_cluster.specs.Replicas.{entries_taken, silences_taken}
use Rattle.am_cluster.proofs.laws.shown.members_reply_as_the_bare_sets.Goals as goal

pub returns : goal.returns
returns c = λ now event reply made replica found calm asks replied.
    let world = c.args.cluster.now in
    c.what_is_shown_replies.ensures replica.stand (silences_taken world c.args.place) (entries_taken world c.args.place) event now reply made
    (c.member_has_maps.ensures replica found)
    (λ id. c.members_show_the_bare_sets.ensures.silences c.args.place now id replica found calm)
    (λ key. c.members_show_the_bare_sets.ensures.log c.args.place now key replica found calm)
    asks replied
