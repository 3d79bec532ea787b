-- The reasons why a silence isn't posted, or isn't ended: tests in their order, of which the first that finds one counts.
use Rattle.std.specs.Prelude.{◌≡◌, ℕ, Bool, ◌&&◌, ◌==◌, nat_lt, nat_le, List, [], ◌∷◌}
use Rattle.std.specs.Prelude.{length, not, Option, Some, None, is_some, is_none, Result, MatchResult, if◌then◌else◌}
use Rattle.std.specs.List.{list_any}
use Rattle.am_wire.specs.Limits.{most}
use Rattle.am_silence.specs.declared.silence.Silence.{Silence}
use Rattle.am_silence.specs.declared.plan.Posted.{Posted}
use Rattle.am_silence.specs.declared.plan.Verdict.{Verdict}
use Rattle.am_silence.specs.declared.plan.Verdict.TheVariants as verdicts
use Rattle.am_silence.specs.declared.error.SilenceError.{SilenceError}
use Rattle.am_silence.specs.declared.error.SilenceError.TheVariants as errors
use Rattle.am_silence.specs.Mesh.{Mesh, writes_mesh_silence}
use Rattle.am_silence.specs.States.{has_expired}
use Rattle.am_silence.specs.Plans.{Post, held_silence, planned, versions, updates, ended_version}

-- the error, if its cause holds
infixl 12 ◌when◌
abbrev pub ◌when◌ : SilenceError → Bool → Option SilenceError
error when cause = if cause then Some error else None

-- the first of two errors
infixl 10 ◌before◌
abbrev pub ◌before◌ : Option SilenceError → Option SilenceError → Option SilenceError
(Some error) before later = Some error
None before later = later

-- a call returns the refusal if there is one, and `Ok` otherwise
abbrev pub Refuses : {T : Type 0} → Result T SilenceError → Option SilenceError → Type 0
Refuses result refusal = MatchResult result (λ _. refusal ≡ None) (λ error. refusal ≡ Some error)

-- ---- what is posted

-- The refusal of a post whatever its patterns are: the posted id isn't in view, or there is no matcher, or one has no label's name.
unfoldable pub unread_refusal : Option Mesh → Posted → Option SilenceError
unread_refusal held posted =
    errors.NotFound when (is_some posted.id && is_none held)
    before errors.NoMatcher when (length posted.matchers == 0)
    before errors.EmptyName when list_any (λ m. length m.name == 0) posted.matchers

-- the refusal if a pattern is invalid, or if all matchers match the empty text
abbrev pub verdict_refusal : Verdict → Option SilenceError
verdict_refusal verdicts.Fine = None
verdict_refusal verdicts.Bad = Some errors.BadPattern
verdict_refusal verdicts.AllEmpty = Some errors.AllMatchEmpty

-- the refusal if the posted end is not after the posted start, or not after now
unfoldable pub times_refusal : Posted → ℕ → Option SilenceError
times_refusal posted now =
    errors.EndNotAfterStart when nat_le posted.ends_at posted.starts_at
    before errors.EndInPast when nat_le posted.ends_at now

-- ---- what is held

-- the refusal if the silence that would get a new version was updated now or later
unfoldable pub newer_refusal : Silence → ℕ → Option SilenceError
newer_refusal held now = errors.Newer held.updated_at when nat_le now held.updated_at

-- the refusal of a new version of the held silence, which gets none if it has expired
unfoldable pub held_refusal : Option Silence → ℕ → Option SilenceError
held_refusal None now = None
held_refusal (Some held) now = if has_expired held now then None else newer_refusal held now

-- the canonical encoding of a version has more than 67,108,864 bytes
abbrev pub is_too_large : Mesh → Bool
is_too_large version = nat_lt most (length (writes_mesh_silence version))

-- the refusal if a version's canonical encoding is too large
unfoldable pub size_refusal : List Mesh → Option SilenceError
size_refusal made = errors.TooLarge when list_any is_too_large made

-- ---- a post

-- the refusal because of what is posted, or of the held silence that is posted again
unfoldable pub posted_refusal : Option Mesh → Posted → Verdict → ℕ → Option SilenceError
posted_refusal held posted verdict now =
    unread_refusal held posted
    before verdict_refusal verdict
    before times_refusal posted now
    before held_refusal (held_silence held posted) now

-- the refusal if a new silence is to be made, and its id is held
unfoldable pub fresh_refusal : Option Silence → Posted → Bool → ℕ → Option SilenceError
fresh_refusal held posted id_held now = errors.IdInUse when (not (updates held posted now) && id_held)

-- the refusal by the tests before those of the versions' lengths
unfoldable pub early_refusal : Option Mesh → Posted → Verdict → Bool → ℕ → Option SilenceError
early_refusal held posted verdict id_held now =
    posted_refusal held posted verdict now before fresh_refusal (held_silence held posted) posted id_held now

-- the refusal of a post, apart from memory
unfoldable pub refusal : Option Mesh → Verdict → Bool → Post → Option SilenceError
refusal held verdict id_held p =
    early_refusal held p.posted verdict id_held p.now before size_refusal (versions (planned held p))

-- ---- an end

-- the refusal of an end by the tests before that of the version's length
unfoldable pub early_end_refusal : Option Mesh → ℕ → Option SilenceError
early_end_refusal None now = Some errors.NotFound
early_end_refusal (Some held) now = errors.AlreadyExpired when has_expired held.silence now before newer_refusal held.silence now

-- the refusal of an end, apart from memory
unfoldable pub end_refusal : Option Mesh → ℕ → ℕ → Option SilenceError
end_refusal None now retention = early_end_refusal None now
end_refusal (Some held) now retention =
    early_end_refusal (Some held) now before size_refusal (ended_version held now retention ∷ [])
