-- Reports of a command on its sources, and the bytes that went out if one stopped.
-- X is the type of versions, S that of sources, as where sources are read; `IsText` says which bytes are told of sources, and
-- `contents` is what a writer holds.
use Rattle.std.specs.Prelude.{◌≡◌, ℕ, ◌<◌, List, length, take, Option}
use Rattle.std.specs.Io.KnownBytes.{Appends}
use Rattle.std.specs.List.{AllZip}
use Rattle.std.specs.declared.cmp.Ordering.{Ordering}
use Rattle.am_version_order.specs.Versions.{Version}
use Rattle.am_report.specs.Sources.{Source}
use Rattle.am_snapshot.specs.declared.error.SnapshotError.TheVariants.{Write, TooLarge, Memory}
use Rattle.am_commands.specs.declared.fault.SourceFault.{SourceFault}
use Rattle.am_commands.specs.declared.fault.Stopped.{Stopped}
use Rattle.am_commands.specs.declared.fault.Stopped.TheVariants as stopped
use Rattle.am_commands.specs.declared.source.Input.{Input}
use Rattle.am_commands.specs.Reading.{IsRead, IsFirstAtFault}

module _ {K X S W : Type 0} (seen : X → Version K) (cmp : K → K → Ordering) (gives : S → List X → Type 0) (inputs : List (Input S))
    (contents : W → Option (List ℕ)) (IsText : List (Source X) → List ℕ → Type 0) where
  -- all sources were read, and exactly what is told of them went out
  pub record IsTold (old new : W) : Type 0 where
    pub sources : List (Source X)
    pub read : AllZip (IsRead seen cmp gives) inputs sources
    pub text : List ℕ
    pub is : IsText sources text
    pub written : Appends (contents old) (contents new) text

  -- all sources were read, and exactly the first bytes of what is told of them went out, and not all
  pub record IsToldTo (k : ℕ) (old new : W) : Type 0 where
    pub sources : List (Source X)
    pub read : AllZip (IsRead seen cmp gives) inputs sources
    pub text : List ℕ
    pub is : IsText sources text
    pub part : k < length text
    pub written : Appends (contents old) (contents new) (take k text)

  -- the first source at fault, or want of memory or of room, before a byte goes out; or a write that failed
  abbrev pub StopsTelling : (S → SourceFault → Type 0) → W → W → Stopped → Type 0
  StopsTelling stops old new (stopped.Source number fault) = (new ≡ old) × IsFirstAtFault seen cmp gives stops inputs number fault
  StopsTelling stops old new (stopped.Output (Write k)) = IsToldTo k old new
  StopsTelling stops old new (stopped.Output TooLarge) = new ≡ old
  StopsTelling stops old new (stopped.Output Memory) = new ≡ old
  StopsTelling stops old new (stopped.Output _) = ⊥
