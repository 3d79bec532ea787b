-- The versions that are sent to a running replica.
-- X is the type of versions, and `seen` is what the merge sees of one. `reads` is what reading a message gives; `all` has the
-- versions that count, and `held` those that the replica holds.
use Rattle.std.specs.Prelude.{◌≡◌, ℕ, Bool, true, false, List, map, flat_map, All, Contains, nat_le, ◌&&◌, Option, Some, None, is_none, Result, Ok, ◌⊎◌}
use Rattle.std.specs.declared.cmp.Ordering.{Ordering}
use Rattle.am_version_order.specs.Versions.{Version}
use Rattle.am_wire.specs.Inputs.{sound}
use Rattle.am_wire.specs.Writing.{delimited}
use Rattle.am_wire.specs.declared.error.WireError.{WireError}
use Rattle.am_matcher.specs.declared.hazard.Hazard.{Hazard}
use Rattle.am_merge.specs.Maps.{at, replaces}
use Rattle.am_report.specs.Differences.{is_same}

module _ {K X : Type 0} (seen : X → Version K) (cmp : K → K → Ordering) where
  -- the version is the one that counts of its key, it isn't later than the moment, and what the replica holds is less or nothing
  abbrev pub is_sent : List X → ℕ → List X → X → Bool
  is_sent all now held v =
      is_same seen (at seen cmp all (seen v).key) (Some v) && (nat_le (seen v).updated now && replaces seen cmp held v)

module _ {K X : Type 0} (seen : X → Version K) (cmp : K → K → Ordering) (reads : ℕ → List ℕ → Result X WireError) (is_hazard : X → Option Hazard → Type 0)
    (all : List X) (now : ℕ) (held : List X) where
  -- the version of the message is one that is sent, and has no hazard
  pub record IsForSending (message : List ℕ) : Type 0 where
    pub version : X
    pub read : reads 0 message ≡ Ok version
    pub sent : is_sent seen cmp all now held version ≡ true
    pub harmless : is_hazard version None

  -- the version isn't one that is sent, or it has a hazard, or one of its key is sent
  abbrev pub IsSettled : List X → X → Type 0
  IsSettled versions v =
      (is_sent seen cmp all now held v ≡ false) ⊎ (((hazard : Hazard) × is_hazard v (Some hazard)) ⊎ (is_none (at seen cmp versions (seen v).key) ≡ false))

  -- the message has such a version
  pub record IsOver (versions : List X) (message : List ℕ) : Type 0 where
    pub version : X
    pub read : reads 0 message ≡ Ok version
    pub settled : IsSettled versions version

  -- the bytes are a row of some of these messages, each for sending, and no key of those that are is left out
  pub record IsSending (messages : List (List ℕ)) (bytes : List ℕ) (versions : List X) : Type 0 where
    pub sent : List (List ℕ)
    pub row : bytes ≡ flat_map delimited sent
    pub each : All IsForSending sent
    pub among : All (Contains messages) sent
    pub over : All (IsOver versions) messages

  -- the rows have no fault, and this is sent of all their messages
  pub record IsSendingOf (read : List (Result (List ℕ) WireError)) (row : List ℕ) (versions : List X) : Type 0 where
    pub messages : List (List ℕ)
    pub whole : read ≡ map sound messages
    pub sending : IsSending messages row versions
