-- Sources that are read one after the other, and where that stops.
-- X is the type of versions, S that of sources; `gives` says which map reading a source may give, and `stops` with which fault it
-- may stop.
use Rattle.std.specs.Prelude.{◌≡◌, ℕ, ◌<◌, List, length, take}
use Rattle.std.specs.List.{AllZip, slice_index_or}
use Rattle.std.specs.declared.cmp.Ordering.{Ordering}
use Rattle.am_version_order.specs.Versions.{Version}
use Rattle.am_merge.specs.Maps.{IsMap}
use Rattle.am_report.specs.Sources.{Source}
use Rattle.am_snapshot.specs.declared.error.SnapshotError.TheVariants.{Memory}
use Rattle.am_commands.specs.declared.fault.SourceFault.{SourceFault}
use Rattle.am_commands.specs.declared.fault.Stopped.{Stopped}
use Rattle.am_commands.specs.declared.fault.Stopped.TheVariants as stopped
use Rattle.am_commands.specs.declared.source.Input.{Input}

module _ {K X S : Type 0} (seen : X → Version K) (cmp : K → K → Ordering) (gives : S → List X → Type 0) where
  -- the source has the name, and the map that reading it gave
  pub record IsRead (input : Input S) (source : Source X) : Type 0 where
    pub name : source.name ≡ input.name.now
    pub order : IsMap seen cmp source.held
    pub held : gives input.source source.held

  module _ (stops : S → SourceFault → Type 0) where
    -- the source of that number is the first at fault: those before it are read
    pub record IsFirstAtFault (inputs : List (Input S)) (number : ℕ) (fault : SourceFault) : Type 0 where
      pub inside : number < length inputs
      pub before : (sources : List (Source X)) × AllZip IsRead (take number inputs) sources
      pub here : (d : Input S) → stops (slice_index_or inputs number d).source fault

    -- the first source that is at fault; or memory ran out
    abbrev pub StopsReading : List (Input S) → Stopped → Type 0
    StopsReading inputs (stopped.Source number fault) = IsFirstAtFault inputs number fault
    StopsReading inputs (stopped.Output e) = e ≡ Memory
