-- The entry of a notification.
use Rattle.std.specs.Prelude.{ℕ, ◌+◌, ◌*◌, false, List, [], min}
use Rattle.am_version_order.specs.Moments.{greatest}
use Rattle.am_nflog.specs.declared.receiver.Receiver.{Receiver}
use Rattle.am_nflog.specs.Mesh.{Mesh, plain_version}

-- the expiry: after the smaller of the retention and two repeat intervals, but not after the last moment
abbrev pub expiry : ℕ → ℕ → ℕ → ℕ
expiry repeat retention now = min (now + min retention (2 * repeat)) greatest

-- the version made at `now`, with no group hash, and not resolved
abbrev pub made_entry : List ℕ → Receiver → List ℕ → List ℕ → ℕ → ℕ → ℕ → Mesh
made_entry group_key receiver firing resolved repeat retention now =
    plain_version (record {
      key = record { group_key = group_key; receiver = receiver };
      group_hash = [];
      resolved = false;
      timestamp = now;
      firing_alerts = firing;
      resolved_alerts = resolved;
    }) (expiry repeat retention now)
