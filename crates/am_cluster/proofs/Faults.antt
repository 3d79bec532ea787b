-- Events without a fault of their own.
use Rattle.std.proofs.Common.{◌≡◌, ℕ, ◌≤◌, Bool, true, false, ltb, length, Some, None, refl, sym, subst}
use Rattle.std.specs.Prelude.{nat_lt, ◌&&◌, if◌then◌else◌}
use Rattle.std.proofs.lemmas.Bool.{le-ltb}
use Rattle.am_wire.specs.Limits.{most}
use Rattle.am_gossip.specs.declared.error.FrameError.{FrameError}
use Rattle.am_gossip.specs.declared.error.FrameError.TheVariants as frame_errors
use Rattle.am_wire.specs.declared.error.WireError.TheVariants as wire_errors
use Rattle.am_nflog.specs.Mesh.{writes_mesh_entry}
use Rattle.am_nflog.specs.Made.{made_entry, expiry}
use Rattle.am_instance.specs.declared.event.Event.{Event}
use Rattle.am_schedule.specs.declared.step.GroupLine.{GroupLine}
use Rattle.am_cluster.specs.Versions.{receiver_of}
use Rattle.am_cluster.specs.LineEvents.{IsFaultless, notified}
use Rattle.am_cluster.proofs.Lengths.{entry_made_fits}

fits_by : (made : Bool) (len : ℕ) (fault : FrameError) → len ≤ most → (if made && nat_lt most len then Some fault else None) ≡ None
fits_by true len fault small = let t : ltb most len ≡ false = le-ltb _ _ small in rw t refl
fits_by false len fault small = refl

notified_faultless : (group : GroupLine) → length group.group ≤ 1024 → length group.receiver ≤ 1024 → length group.firing ≤ 512 → length group.resolved ≤ 512 → IsFaultless (notified group)
notified_faultless group key name firing resolved = λ config now.
    fits_by (nat_lt now (expiry group.repeat config.retention now))
    (length (writes_mesh_entry (made_entry group.group (receiver_of group.receiver) group.firing group.resolved group.repeat config.retention now)))
    (frame_errors.Wire wire_errors.TooLarge)
    (entry_made_fits group.group (receiver_of group.receiver) group.firing group.resolved group.repeat config.retention now key name refl firing resolved)

-- the event of a group of short words
pub notified_sound : (event : Event) (group : GroupLine) → event ≡ notified group → length group.group ≤ 1024 → length group.receiver ≤ 1024 → length group.firing ≤ 512 → length group.resolved ≤ 512
    → IsFaultless event
notified_sound event group is key name firing resolved = subst IsFaultless (sym is) (notified_faultless group key name firing resolved)
