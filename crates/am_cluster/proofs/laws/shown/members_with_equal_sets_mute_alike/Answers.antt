use Rattle.std.proofs.Common.{length}
use Rattle.am_silence.specs.Mesh.{IsMesh}
use Rattle.am_nflog.specs.Mesh.{IsMesh as IsLogMesh}
use Rattle.am_instance.specs.Replies.{entry_in_view, silence_in_view}
use Rattle.am_cluster.specs.Replicas.{entries_taken, silences_taken}
use Rattle.am_cluster.proofs.DurableHas.{taken_values}
use Rattle.am_cluster.proofs.laws.shown.members_with_equal_sets_mute_alike.Goals as goal

pub returns : goal.returns
returns c = λ dialect now labels ids broken others broken_too one found two there here too silences entries first second id muted sound.
    c.equal_views_mute_alike.ensures dialect one.stand two.stand now labels ids broken others broken_too (c.member_has_maps.ensures one found) (c.member_has_maps-2.ensures two there)
    (record {
      silences = λ key.
          c.equal_sets_show_one.ensures (silences_taken c.args.cluster.now c.args.place) (silences_taken c.args.other.now c.args.peer) now key (silence_in_view now one.stand.silences key) (silence_in_view now two.stand.silences key)
          silences (taken_values IsMesh (length c.args.cluster.now.replicas) c.args.place c.args.cluster.now.silences c.consistency.ensures.silences) (c.members_show_the_bare_sets.ensures.silences c.args.place now key one found here) (c.members_show_the_bare_sets-2.ensures.silences c.args.peer now key two there too);
      log = λ key.
          c.equal_sets_show_one-2.ensures (entries_taken c.args.cluster.now c.args.place) (entries_taken c.args.other.now c.args.peer) now key (entry_in_view now one.stand.log key) (entry_in_view now two.stand.log key)
          entries (taken_values IsLogMesh (length c.args.cluster.now.replicas) c.args.place c.args.cluster.now.log c.consistency.ensures.log) (c.members_show_the_bare_sets.ensures.log c.args.place now key one found here) (c.members_show_the_bare_sets-2.ensures.log c.args.peer now key two there too);
    })
    first second id muted sound
