use Rattle.std.proofs.Common.{rules, ◌≡◌}
use Rattle.am_instance.specs.declared.event.Event.TheVariants as events
use Rattle.am_cluster.specs.LineEvents.{notified}
use Rattle.am_cluster.proofs.Faults.{notified_sound}
use Rattle.am_cluster.proofs.groups.notified.Goals as goal

pub returns-clause-sound : goal.returns-clause-sound
returns-clause-sound c =
    let event = events.Notified c.in_ok-bytes_of.field-0 c.in_ok-receiver_of.field-0 c.in_ok-hashes_of.field-0 c.in_ok-hashes_of-2.field-0 c.args.group.now.repeat in
    let is : event ≡ notified c.args.group.now = search rules in
    notified_sound event c.args.group.now is c.bytes_of.ensures.short c.receiver_of.ensures.short c.hashes_of.ensures.few c.hashes_of-2.ensures.few
