-- The versions of a plan are greater than those that they replace.
use Rattle.std.proofs.Common.{◌≡◌, ℕ, ◌<◌, Bool, true, false, nat_lt, nat_le, Option, Some, None, IfSome, is_some, if◌then◌else◌, refl, arith}
use Rattle.std.proofs.lemmas.Bool.{lt-ltb}
use Rattle.std.specs.Cmp.{second_so}
use Rattle.std.proofs.lemmas.Bool.Decides.{nat_tests}
use Rattle.am_version_order.specs.Versions.{is_below}
use Rattle.am_silence.specs.declared.silence.Silence.{Silence}
use Rattle.am_silence.specs.declared.state.State.{State}
use Rattle.am_silence.specs.declared.state.State.TheVariants as states
use Rattle.am_silence.specs.declared.plan.Posted.{Posted}
use Rattle.am_silence.specs.declared.plan.Verdict.{Verdict}
use Rattle.am_silence.specs.declared.error.SilenceError.{SilenceError}
use Rattle.am_silence.specs.declared.error.SilenceError.TheVariants as errors
use Rattle.am_silence.specs.declared.plan.Plan.TheVariants as plans
use Rattle.am_silence.specs.Mesh.{Mesh, mesh_version}
use Rattle.am_silence.specs.States.{state_of, is_expired, has_expired}
use Rattle.am_silence.specs.Plans.{Post, held_version, held_silence, silence_in_view, new_version, updated_version, ended_in, ended_version, same_matchers, allows_update, may_update, new_plan, plan_over, successor, Succeeds}
use Rattle.am_silence.specs.Refusals.{◌when◌, ◌before◌, unread_refusal, verdict_refusal, times_refusal, newer_refusal, held_refusal, posted_refusal}

-- ---- what passed tests say

before_none : (a b : Option SilenceError) → (a before b) ≡ None → (a ≡ None) × (b ≡ None)
before_none None b h = (refl, h)
before_none (Some e) b h = absurd cc

when_none : (e : SilenceError) (b : Bool) → (e when b) ≡ None → b ≡ false
when_none e false h = refl
when_none e true h = absurd cc

times_pass : (posted : Posted) (now : ℕ) → times_refusal posted now ≡ None → now < posted.ends_at
unfolding times_refusal
times_pass posted now h =
    let both = before_none (errors.EndNotAfterStart when nat_le posted.ends_at posted.starts_at) (errors.EndInPast when nat_le posted.ends_at now) h in
    let after : nat_le posted.ends_at now ≡ false = when_none errors.EndInPast (nat_le posted.ends_at now) both.1 in
    grind (arith, nat_tests)

-- the end is after now, and the silence that is posted again was updated before now
pub posted_passes : (held : Option Mesh) (posted : Posted) (verdict : Verdict) (now : ℕ) → posted_refusal held posted verdict now ≡ None
    → (now < posted.ends_at) × (held_refusal (held_silence held posted) now ≡ None)
unfolding posted_refusal
posted_passes held posted verdict now h =
    let unread = unread_refusal held posted in
    let patterns = verdict_refusal verdict in
    let times = times_refusal posted now in
    let all = before_none (unread before patterns before times) (held_refusal (held_silence held posted) now) h in
    let tests = before_none (unread before patterns) times all.0 in
    (times_pass posted now tests.1, all.1)

newer_passes : (silence : Silence) (now : ℕ) → newer_refusal silence now ≡ None → silence.updated_at < now
unfolding newer_refusal
newer_passes silence now h =
    let later : nat_le now silence.updated_at ≡ false = when_none (errors.Newer silence.updated_at) (nat_le now silence.updated_at) h in
    grind (arith, nat_tests)

-- ---- greater

-- what ending a silence makes of it
record IsEnded (silence ended : Silence) (now : ℕ) : Type 0 where
  id : ended.id ≡ silence.id
  ends_at : ended.ends_at ≡ now
  updated_at : ended.updated_at ≡ now

ended_is : (state : State) (silence : Silence) (now : ℕ) → is_expired state ≡ false → IsEnded silence (ended_in state silence now) now
ended_is states.Pending silence now h = record { id = refl; ends_at = refl; updated_at = refl }
ended_is states.Active silence now h = record { id = refl; ends_at = refl; updated_at = refl }
ended_is states.Expired silence now h = absurd cc

below_later : (held v : Mesh) → held.silence.updated_at < v.silence.updated_at → is_below (mesh_version held) (mesh_version v) ≡ true
unfolding is_below
below_later held v h = let less : nat_lt held.silence.updated_at v.silence.updated_at ≡ true = lt-ltb _ _ h in rw less refl

pub ended-succeeds : (held : Mesh) (now retention : ℕ) → has_expired held.silence now ≡ false → newer_refusal held.silence now ≡ None
    → Succeeds held (ended_version held now retention)
ended-succeeds held now retention lives older =
    let is = ended_is (state_of held.silence now) held.silence now lives in
    let earlier : held.silence.updated_at < now = newer_passes held.silence now older in
    let made_at : (ended_version held now retention).silence.updated_at ≡ now = is.updated_at in
    record { same_id = is.id; greater = below_later held (ended_version held now retention) (omega arith) }

updated-succeeds : (held : Mesh) (p : Post) → newer_refusal held.silence p.now ≡ None → Succeeds held (updated_version held p)
updated-succeeds held p older =
    record { same_id = refl; greater = below_later held (updated_version held p) (newer_passes held.silence p.now older) }

-- the version that a plan puts in the place of one that is held
pub plan-succeeds : (held : Option Mesh) (p : Post) → held_refusal (held_silence held p.posted) p.now ≡ None
    → IfSome (successor (plan_over (held_version held p.posted) p)) (λ v. IfSome held (λ version. Succeeds version v))
unfolding held_refusal
plan-succeeds held p = by_id (is_some p.posted.id) held
  where
    -- the held silence is not expired, and it was updated before now
    ended : (held : Mesh) (b : Bool) → has_expired held.silence p.now ≡ b → (if b then None else newer_refusal held.silence p.now) ≡ None
        → IfSome (successor (if b then plans.Create (new_version p) else plans.Replace (new_version p) (ended_version held p.now p.retention))) (λ v. Succeeds held v)
    ended held true e h = tt
    ended held false e h = ended-succeeds held p.now p.retention e h

    -- a silence that may be updated has not expired
    lives : (silence : Silence) (state : State) → allows_update state silence p.posted p.now ≡ true → is_expired state ≡ false
    lives silence states.Pending h = refl
    lives silence states.Active h = refl
    lives silence states.Expired h = cc

    over : (held : Mesh) (b : Bool) → may_update held.silence p.posted p.now ≡ b → held_refusal (Some held.silence) p.now ≡ None
        → IfSome (successor (if b then plans.Update (updated_version held p) else new_plan (Some held) p)) (λ v. Succeeds held v)
    over held true e h =
        let alive : has_expired held.silence p.now ≡ false = lives held.silence (state_of held.silence p.now) (second_so (same_matchers p.posted.matchers held.silence.matchers) _ e) in
        updated-succeeds held p (rw alive at h)
    over held false e h = ended held (has_expired held.silence p.now) refl h

    by_id : (b : Bool) (held : Option Mesh) → held_refusal (silence_in_view (if b then held else None)) p.now ≡ None
        → IfSome (successor (plan_over (if b then held else None) p)) (λ v. IfSome held (λ h. Succeeds h v))
    by_id false held h = tt
    by_id true None h = tt
    by_id true (Some held) h = over held (may_update held.silence p.posted p.now) refl h
