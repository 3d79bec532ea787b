-- The states of a silence.
use Rattle.std.specs.Prelude.{ℕ, ◌<◌, ◌≤◌, Bool, true, false, nat_lt, if◌then◌else◌}
use Rattle.am_silence.specs.declared.silence.Silence.{Silence}
use Rattle.am_silence.specs.declared.state.State.{State}
use Rattle.am_silence.specs.declared.state.State.TheVariants as states

-- the state at a moment: pending before the start, active from the start on and before the end, and else expired
abbrev pub state_of : Silence → ℕ → State
state_of silence now =
    if nat_lt now silence.starts_at then states.Pending
    else (if nat_lt now silence.ends_at then states.Active else states.Expired)

-- the state is that of an expired silence
abbrev pub is_expired : State → Bool
is_expired states.Pending = false
is_expired states.Active = false
is_expired states.Expired = true

-- the silence has expired at a moment
abbrev pub has_expired : Silence → ℕ → Bool
has_expired silence now = is_expired (state_of silence now)

-- the moment is from the silence's start on and before its end
pub record IsActive (silence : Silence) (now : ℕ) : Type 0 where
  pub started : silence.starts_at ≤ now
  pub not_ended : now < silence.ends_at

-- the moment is before the silence's start
abbrev pub IsPending : Silence → ℕ → Type 0
IsPending silence now = now < silence.starts_at
