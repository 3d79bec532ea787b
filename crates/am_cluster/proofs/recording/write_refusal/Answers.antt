use Rattle.std.proofs.Common.{Err, subst}
use Rattle.am_cluster.specs.Recording.{CanRecord}
use Rattle.am_cluster.proofs.Recordings.{can_stop}
use Rattle.am_cluster.proofs.recording.write_refusal.Goals as goal

pub write_silent-requires : goal.write_silent-requires
write_silent-requires c =
    can_stop _ _ c.requires.1 c.args.coming.versions.items c.in-Memory.taken c.first_brought-delivered.result
    (subst (λ e. CanRecord c.args.journal.now c.args.entry.now c.requires.1 (Err e)) c.in-Memory.is c.requires.3)
    c.requires.2.brought_are c.first_brought-delivered.ensures.silences c.first_brought-delivered.ensures.log
