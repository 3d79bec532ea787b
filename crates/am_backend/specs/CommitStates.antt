-- The state of what is to be on the disk, as contracts see it.
use Rattle.std.specs.Prelude.{ℕ, ◌+◌, ◌-◌, ◌^◌, nat_lt, Bool, true, false, not, is_some, if◌then◌else◌, Option, None}
use Rattle.am_backend.specs.declared.commit_state.CommitState.{CommitState}

-- the place of the disk among the members, if logs are kept
abbrev pub disk_of : CommitState → Option ℕ
disk_of commit_state = commit_state.disk

-- true if logs are kept
abbrev pub keeps_logs : CommitState → Bool
keeps_logs commit_state = is_some commit_state.disk

-- the number of times that something came that is to be in a log
abbrev pub came : CommitState → ℕ
came commit_state = commit_state.changes

-- true if something came since the last commit
abbrev pub uncommitted : CommitState → Bool
uncommitted commit_state = commit_state.has_changes

-- true if the logs lack something, so that nothing is kept before a save
abbrev pub behind : CommitState → Bool
behind commit_state = commit_state.is_behind

-- true if all that was done before the last commit is kept
abbrev pub kept : CommitState → Bool
kept commit_state = commit_state.is_kept

-- the state before anything came
abbrev pub fresh_with : Option ℕ → CommitState
fresh_with disk = record { disk = disk; changes = 0; has_changes = false; is_behind = false; is_kept = true; next_save = None }

-- a count plus one, which stops at the greatest number of 64 bits
abbrev pub counted_on : ℕ → ℕ
counted_on count = if nat_lt count (2 ^ 64 - 1) then count + 1 else count

-- the state once something more came that is to be in a log
abbrev pub with_more : CommitState → CommitState
with_more commit_state = record commit_state { changes = counted_on commit_state.changes; has_changes = true }

-- the state once something came that is in no log
abbrev pub with_lost : CommitState → CommitState
with_lost commit_state = if keeps_logs commit_state then record (with_more commit_state) { is_behind = true } else commit_state

-- the state once a commit has begun
abbrev pub with_begun : CommitState → CommitState
with_begun commit_state = record commit_state { has_changes = false }

-- the state once a commit is over
abbrev pub with_ended : CommitState → CommitState
with_ended commit_state = record commit_state { is_kept = not commit_state.is_behind }

-- the state once everything is in the files
abbrev pub with_saved : CommitState → CommitState
with_saved commit_state = record commit_state { is_behind = false }
