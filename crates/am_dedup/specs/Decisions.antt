-- The decision of whether a group of alerts is notified. Hashes of alerts form sets: their order and repetition don't count.
use Rattle.std.specs.Prelude.{ℕ, ◌+◌, Bool, not, ◌&&◌, ◌==◌, List, Option, Some, None, nat_lt, if◌then◌else◌}
use Rattle.std.specs.Ordering.{nat_cmp}
use Rattle.std.specs.FinSet.{FinSet, from_list, is_subset, len}
use Rattle.am_nflog.specs.declared.entry.Entry.{Entry}
use Rattle.am_dedup.specs.declared.decision.LastNotice.{LastNotice}
use Rattle.am_dedup.specs.declared.decision.Decision.{Decision}
use Rattle.am_dedup.specs.declared.decision.Decision.TheVariants.{Skip, Notify}
use Rattle.am_dedup.specs.declared.decision.Reason.TheVariants.{First, NewFiring, AllResolved, NewResolved, Repeat}

-- a set of hashes
abbrev pub Hashes : Type 0
Hashes = FinSet nat_cmp

-- the set of the hashes in a list
abbrev pub set_of : List ℕ → Hashes
set_of hashes = from_list hashes

-- true if a set of hashes is empty
abbrev pub has_none : Hashes → Bool
has_none hashes = len hashes == 0

-- the log's record of a group: the alerts firing and resolved when it was last notified, and the moment of that
pub record Logged : Type 0 where
  pub firing : Hashes
  pub resolved : Hashes
  pub timestamp : ℕ

-- the record of a group in an entry
abbrev pub logged : Entry → Logged
logged e = record { firing = set_of e.firing_alerts; resolved = set_of e.resolved_alerts; timestamp = e.timestamp }

-- the record of a group in its last notice
abbrev pub noticed : LastNotice → Logged
noticed n = record { firing = set_of n.firing; resolved = set_of n.resolved; timestamp = n.timestamp }

-- the first case that holds, if the log has an entry
unfoldable pub decision_after : Logged → Hashes → Hashes → ℕ → Bool → ℕ → Decision
decision_after entry firing resolved repeat wanted now =
    if not (is_subset firing entry.firing) then Notify NewFiring else
    if has_none firing then (if has_none entry.firing then Skip else Notify AllResolved) else
    if wanted && not (is_subset resolved entry.resolved) then Notify NewResolved else
    if nat_lt (entry.timestamp + repeat) now then Notify Repeat else Skip

-- if the log has no entry, firing alerts are notified for the first time
unfoldable pub decision : Option Logged → Hashes → Hashes → ℕ → Bool → ℕ → Decision
decision None firing resolved repeat wanted now = if has_none firing then Skip else Notify First
decision (Some entry) firing resolved repeat wanted now = decision_after entry firing resolved repeat wanted now
