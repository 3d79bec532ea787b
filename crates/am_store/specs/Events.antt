-- The calls on a file, and their effect on it.
use Rattle.std.specs.Prelude.{◌≡◌, ◌⊎◌, ◌≤◌, ℕ, zero, suc, ◌+◌, ◌==◌, Bool, true, false, if◌then◌else◌, List, [], ◌∷◌, ◌++◌, length, take, drop, slice_index, refl}
use Rattle.std.proofs.Common.{inl, inr}
use Rattle.std.proofs.Math.Nat.{not-suc-le_self}
use Rattle.am_store.specs.Device.{Torn, Cut}

-- A call with its answer: its kind (0 syncs, 1 writes, 2 cuts), an offset or a length, whether it succeeded, and bytes.
abbrev pub Event : Type 0
Event = ℕ × ℕ × Bool × List ℕ

abbrev pub event_of : List ℕ → List ℕ → Event
event_of numbers bytes = (slice_index numbers 0, slice_index numbers 1, slice_index numbers 2 == 1, bytes)

-- the content of a file after a call that succeeds
abbrev pub changed : ℕ → ℕ → List ℕ → List ℕ → List ℕ
changed zero at bytes file = file
changed (suc zero) at bytes file = take at file ++ bytes ++ drop (at + length bytes) file
changed (suc (suc _)) at bytes file = take at file

-- The bytes that a read would return after these calls, the newest first, on a file that held `start`. A call that fails has no
-- visible effect.
abbrev pub seen_after : List ℕ → List Event → List ℕ
seen_after start [] = start
seen_after start (e ∷ earlier) = if e.2 then changed e.0 e.1 e.3 (seen_after start earlier) else seen_after start earlier

-- the bytes that a crash may leave of a call, other than what is visible then: a write or a cut may be half done, even one that
-- fails
abbrev pub Leaves : ℕ → ℕ → Bool → List ℕ → (List ℕ → Type 0) → List ℕ → Type 0
Leaves zero at true bytes earlier c = ⊥
Leaves zero at false bytes earlier c = earlier c
Leaves (suc zero) at ok bytes earlier c = (d : List ℕ) × earlier d × Torn at (length bytes) d c
Leaves (suc (suc _)) at ok bytes earlier c = (d : List ℕ) × earlier d × Cut at d c

-- the bytes that a crash may leave after these calls
abbrev pub may_leave_after : List ℕ → List Event → List ℕ → Type 0
may_leave_after start [] c = c ≡ start
may_leave_after start (e ∷ earlier) c = (c ≡ seen_after start (e ∷ earlier)) ⊎ Leaves e.0 e.1 e.2 e.3 (may_leave_after start earlier) c

-- the bytes that a crash might have left since there were t calls
abbrev pub left_since : List ℕ → List Event → ℕ → List ℕ → Type 0
left_since start [] t c = c ≡ start
left_since start (e ∷ earlier) t c = may_leave_after start (e ∷ earlier) c ⊎ ((t ≤ length earlier) × left_since start earlier t c)

-- the number of calls that failed
abbrev pub faults_of : List Event → ℕ
faults_of [] = 0
faults_of (e ∷ earlier) = if e.2 then faults_of earlier else faults_of earlier + 1

-- ---- the laws of a device
pub may_stay : (start : List ℕ) (events : List Event) → may_leave_after start events (seen_after start events)
may_stay start [] = refl
may_stay start (e ∷ earlier) = inl refl

pub is_left_now : (start : List ℕ) (events : List Event) (t : ℕ) (c : List ℕ) → may_leave_after start events c → left_since start events t c
is_left_now start [] t c now = now
is_left_now start (e ∷ earlier) t c now = inl now

pub is_last_moment : (start : List ℕ) (events : List Event) (c : List ℕ) → left_since start events (length events) c → may_leave_after start events c
is_last_moment start [] c left = left
is_last_moment start (e ∷ earlier) c (inl now) = now
is_last_moment start (e ∷ earlier) c (inr before) = absurd (not-suc-le_self (length earlier) before.0)
