-- No test of a post or of an end answers that memory ran out.
use Rattle.std.proofs.Common.{◌≡◌, ℕ, Bool, true, false, ◌&&◌, ◌==◌, nat_le, length, Option, Some, None, is_some, is_none, if◌then◌else◌, refl, sym, ap, ◌∙◌}
use Rattle.std.specs.List.{list_any}
use Rattle.am_silence.specs.declared.silence.Silence.{Silence}
use Rattle.am_silence.specs.declared.plan.Posted.{Posted}
use Rattle.am_silence.specs.declared.plan.Verdict.{Verdict}
use Rattle.am_silence.specs.declared.plan.Verdict.TheVariants as verdicts
use Rattle.am_silence.specs.declared.error.SilenceError.{SilenceError}
use Rattle.am_silence.specs.declared.error.SilenceError.TheVariants as errors
use Rattle.am_silence.specs.Mesh.{Mesh}
use Rattle.am_silence.specs.States.{has_expired}
use Rattle.am_silence.specs.Plans.{held_silence}
use Rattle.am_silence.specs.Refusals.{◌when◌, ◌before◌, unread_refusal, verdict_refusal, times_refusal, newer_refusal, held_refusal, posted_refusal}

abbrev is_memory : SilenceError → Bool
is_memory errors.Memory = true
is_memory e = false

abbrev tells_memory : Option SilenceError → Bool
tells_memory (Some e) = is_memory e
tells_memory None = false

when_other : (e : SilenceError) (b : Bool) → is_memory e ≡ false → tells_memory (e when b) ≡ false
when_other e false h = refl
when_other e true h = h

before_other : (a b : Option SilenceError) → tells_memory a ≡ false → tells_memory b ≡ false → tells_memory (a before b) ≡ false
before_other None b one other = other
before_other (Some e) b one other = one

verdict_other : (verdict : Verdict) → tells_memory (verdict_refusal verdict) ≡ false
verdict_other verdicts.Fine = refl
verdict_other verdicts.Bad = refl
verdict_other verdicts.AllEmpty = refl

unread_other : (held : Option Mesh) (posted : Posted) → tells_memory (unread_refusal held posted) ≡ false
unfolding unread_refusal
unread_other held posted =
    let missing = errors.NotFound when (is_some posted.id && is_none held) in
    let none = errors.NoMatcher when (length posted.matchers == 0) in
    let nameless = errors.EmptyName when list_any (λ m. length m.name == 0) posted.matchers in
    before_other (missing before none) nameless (before_other missing none (when_other errors.NotFound _ refl) (when_other errors.NoMatcher _ refl)) (when_other errors.EmptyName _ refl)

times_other : (posted : Posted) (now : ℕ) → tells_memory (times_refusal posted now) ≡ false
unfolding times_refusal
times_other posted now =
    before_other (errors.EndNotAfterStart when nat_le posted.ends_at posted.starts_at) (errors.EndInPast when nat_le posted.ends_at now)
    (when_other errors.EndNotAfterStart _ refl) (when_other errors.EndInPast _ refl)

newer_other : (held : Silence) (now : ℕ) → tells_memory (newer_refusal held now) ≡ false
unfolding newer_refusal
newer_other held now = when_other (errors.Newer held.updated_at) _ refl

unless_other : (b : Bool) (later : Option SilenceError) → tells_memory later ≡ false → tells_memory (if b then None else later) ≡ false
unless_other true later other = refl
unless_other false later other = other

held_other : (held : Option Silence) (now : ℕ) → tells_memory (held_refusal held now) ≡ false
unfolding held_refusal
held_other None now = refl
held_other (Some held) now = unless_other (has_expired held now) (newer_refusal held now) (newer_other held now)

posted_other : (held : Option Mesh) (posted : Posted) (verdict : Verdict) (now : ℕ) → tells_memory (posted_refusal held posted verdict now) ≡ false
unfolding posted_refusal
posted_other held posted verdict now =
    let unread = unread_refusal held posted in
    let patterns = verdict_refusal verdict in
    let times = times_refusal posted now in
    before_other (unread before patterns before times) (held_refusal (held_silence held posted) now)
    (before_other (unread before patterns) times (before_other unread patterns (unread_other held posted) (verdict_other verdict)) (times_other posted now))
    (held_other (held_silence held posted) now)

never : (told : Option SilenceError) (e : SilenceError) → tells_memory told ≡ false → told ≡ Some e → e ≡ errors.Memory → ⊥
never told e other is memory =
    let tells : tells_memory told ≡ true = ap tells_memory is ∙ ap is_memory memory in
    let no : false ≡ true = sym other ∙ tells in
    absurd cc

pub unread_tells_no_memory : (held : Option Mesh) (posted : Posted) (e : SilenceError) → unread_refusal held posted ≡ Some e → e ≡ errors.Memory → ⊥
unread_tells_no_memory held posted e = never (unread_refusal held posted) e (unread_other held posted)

pub posted_tells_no_memory : (held : Option Mesh) (posted : Posted) (verdict : Verdict) (now : ℕ) (e : SilenceError) → posted_refusal held posted verdict now ≡ Some e → e ≡ errors.Memory → ⊥
posted_tells_no_memory held posted verdict now e = never (posted_refusal held posted verdict now) e (posted_other held posted verdict now)

pub newer_tells_no_memory : (held : Silence) (now : ℕ) (e : SilenceError) → newer_refusal held now ≡ Some e → e ≡ errors.Memory → ⊥
newer_tells_no_memory held now e = never (newer_refusal held now) e (newer_other held now)
