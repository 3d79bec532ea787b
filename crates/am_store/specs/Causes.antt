-- The reasons why a batch wasn't added.
use Rattle.std.specs.Prelude.{◌≡◌, ◌<◌, ◌≤◌, ◌^◌, ℕ, Bool, false, Result, Ok, Err}
use Rattle.am_store.specs.declared.log_error.LogError.{LogError}
use Rattle.am_store.specs.declared.log_error.LogError.TheVariants.{Memory, Failed, Full, Closed}

-- the disk failed, memory was refused, the log has 2^62 bytes, or it was closed before
abbrev pub HasCommitCause : {T : Type 0} → ℕ → ℕ → ℕ → Bool → Result T LogError → Type 0
HasCommitCause before now end usable (Ok _) = before ≤ now
HasCommitCause before now end usable (Err Memory) = before ≤ now
HasCommitCause before now end usable (Err (Failed _)) = before < now
HasCommitCause before now end usable (Err Full) = 2 ^ 62 ≤ end
HasCommitCause before now end usable (Err Closed) = usable ≡ false
