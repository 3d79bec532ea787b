-- The mending of a live replica: what it is sent, and what an Alertmanager holds after that came. X is the type of versions, and
-- `seen` is what the merge sees of one.
use Rattle.std.specs.Prelude.{◌≡◌, ℕ, Bool, nat_lt, nat_le, nat_eq, ◌&&◌, if◌then◌else◌, List, filter, Option, Some, None, Contains}
use Rattle.std.specs.List.{flat_map}
use Rattle.std.specs.declared.cmp.Ordering.{Ordering}
use denote.Ref.{Bor}
use Rattle.am_merge.specs.Maps.{at, if_live, replaces}
use Rattle.am_alertmanager.specs.declared.refused.Refused.{Refused}
use Rattle.am_alertmanager.specs.declared.refused.Refused.TheVariants.{Expired, Tie, Other}
use Rattle.am_version_order.specs.Versions.{Version, is_live, IsLive}

-- a version, regardless of its place in memory
abbrev pub version_of : {X : Type 0} → Bor X → X
version_of version = version.now

-- all versions that replicas hold
abbrev pub versions_of : {X : Type 0} → List (List X) → List X
versions_of replicas = flat_map (λ held. held) replicas

module _ {K X : Type 0} (seen : X → Version K) where
  -- The version that an Alertmanager holds at a key after one of it comes: a version past its expiry is dropped, and any other
  -- is held if nothing was, or if it was updated later.
  abbrev pub kept : ℕ → Option X → X → Option X
  kept now None v = if_live seen now (Some v)
  kept now (Some w) v = if is_live now (seen v) && nat_lt (seen w).updated (seen v).updated then Some v else Some w

  -- an Alertmanager that has this at its key takes the version: it is live, and it is the first or was updated later
  abbrev pub takes : ℕ → Option X → X → Bool
  takes now None v = is_live now (seen v)
  takes now (Some w) v = is_live now (seen v) && nat_lt (seen w).updated (seen v).updated

  -- the version that is held after one comes, if one does
  abbrev pub kept_of : ℕ → Option X → Option X → Option X
  kept_of now old None = old
  kept_of now old (Some v) = kept now old v

  -- the reason that a version that was sent isn't held
  abbrev pub why_refused : ℕ → Option X → X → Refused
  why_refused now old v =
      if nat_le (seen v).expires now then Expired
      else (elim old [ None ↦ Other | Some w ↦ if nat_eq (seen w).updated (seen v).updated then Tie else Other ])

  -- versions of one key that were updated at the same moment are the same
  abbrev pub TieNowhere : List X → Type 0
  TieNowhere versions = (v w : X) → Contains versions v → Contains versions w →
      (seen v).key ≡ (seen w).key → (seen v).updated ≡ (seen w).updated → v ≡ w

  -- each version is live
  abbrev pub AreLive : ℕ → List X → Type 0
  AreLive now versions = (v : X) → Contains versions v → IsLive now (seen v)

  module _ (cmp : K → K → Ordering) where
    -- the versions of a map that another one lacks: those greater than what it has at their key, or the first there
    abbrev pub lacked : List X → List X → List X
    lacked held map = filter (replaces seen cmp held) map

    -- a replica that holds these versions is given the version: it takes it, and the version isn't of the future
    abbrev pub is_given : ℕ → List X → X → Bool
    is_given now held v = nat_le (seen v).updated now && takes now (at seen cmp held (seen v).key) v

    -- the version that an Alertmanager holds at a key after these versions came, each with a key of its own
    abbrev pub after : ℕ → List X → List X → K → Option X
    after now held sent key = kept_of now (at seen cmp held key) (at seen cmp sent key)
