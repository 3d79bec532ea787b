-- A post or an end loses nothing of a held version of which nothing is lost.
use Rattle.std.proofs.Common.{ℕ, Bool, true, false, [], ◌∷◌, Option, Some, None, IfSome, is_some, if◌then◌else◌, refl, ap}
use Rattle.std.specs.Prelude.{All}
use Rattle.std.proofs.lemmas.List.Elements.{All-nil, All-cons}
use Rattle.am_wire.specs.declared.unknown.Unknown.{Unknown}
use Rattle.am_wire.specs.declared.unknown.Unknown.TheVariants.{Drop, Keep}
use Rattle.am_wire.specs.Unknown.{StaysWhole}
use Rattle.am_silence.specs.declared.silence.Silence.{Silence}
use Rattle.am_silence.specs.declared.plan.Plan.TheVariants as plans
use Rattle.am_silence.specs.Mesh.{Mesh, version_with, plain_version, without_unknown}
use Rattle.am_silence.specs.States.{has_expired}
use Rattle.am_silence.specs.Plans.{Post, new_version, updated_version, ended_version, ended_of, may_update, new_plan, plan_over, planned, versions}

-- nothing of a version is lost where this is done with unknown fields
abbrev pub IsWholeBy : Unknown → Mesh → Type 0
IsWholeBy unknown = StaysWhole without_unknown unknown

kept_whole : (unknown : Unknown) (held : Mesh) (silence : Silence) (expires_at : ℕ) → IsWholeBy unknown held
    → IsWholeBy unknown (version_with held.unknown silence expires_at)
kept_whole Keep held silence expires_at whole = tt
kept_whole Drop held silence expires_at whole = ap (λ (m : Mesh). version_with m.unknown silence expires_at) whole

plain_whole : (unknown : Unknown) (silence : Silence) (expires_at : ℕ) → IsWholeBy unknown (plain_version silence expires_at)
plain_whole Keep silence expires_at = tt
plain_whole Drop silence expires_at = refl

module _ (unknown : Unknown) (p : Post) where
  one_whole : (v : Mesh) → IsWholeBy unknown v → All (IsWholeBy unknown) (v ∷ [])
  one_whole v whole = All-cons (IsWholeBy unknown) v [] whole (All-nil (IsWholeBy unknown))

  new_whole : IsWholeBy unknown (new_version p)
  new_whole = plain_whole unknown (new_version p).silence (new_version p).expires_at

  new_plan_whole : (held : Mesh) (expired : Bool) → IsWholeBy unknown held
      → All (IsWholeBy unknown)
      (versions (if expired then plans.Create (new_version p) else plans.Replace (new_version p) (ended_version held p.now p.retention)))
  new_plan_whole held true whole = one_whole (new_version p) new_whole
  new_plan_whole held false whole =
      let ended = ended_version held p.now p.retention in
      All-cons (IsWholeBy unknown) (new_version p) (ended ∷ []) new_whole
      (one_whole ended (kept_whole unknown held ended.silence ended.expires_at whole))

  update_whole : (held : Mesh) (updates : Bool) → IsWholeBy unknown held
      → All (IsWholeBy unknown) (versions (if updates then plans.Update (updated_version held p) else new_plan (Some held) p))
  update_whole held true whole =
      let updated = updated_version held p in
      one_whole updated (kept_whole unknown held updated.silence updated.expires_at whole)
  update_whole held false whole = new_plan_whole held (has_expired held.silence p.now) whole

  over_whole : (held : Option Mesh) → IfSome held (IsWholeBy unknown) → All (IsWholeBy unknown) (versions (plan_over held p))
  over_whole None whole = one_whole (new_version p) new_whole
  over_whole (Some held) whole = update_whole held (may_update held.silence p.posted p.now) whole

  -- so it is with each version that a post makes
  pub planned_whole : (held : Option Mesh) → IfSome held (IsWholeBy unknown) → All (IsWholeBy unknown) (versions (planned held p))
  unfolding planned
  planned_whole held whole = by_id (is_some p.posted.id)
    where
      by_id : (b : Bool) → All (IsWholeBy unknown) (versions (plan_over (if b then held else None) p))
      by_id true = over_whole held whole
      by_id false = over_whole None tt

-- and with that by which a silence ends
pub ended_whole : (unknown : Unknown) (held : Option Mesh) (now retention : ℕ) → IfSome held (IsWholeBy unknown)
    → IfSome (ended_of held now retention) (IsWholeBy unknown)
ended_whole unknown None now retention whole = tt
ended_whole unknown (Some held) now retention whole =
    let ended = ended_version held now retention in
    kept_whole unknown held ended.silence ended.expires_at whole
