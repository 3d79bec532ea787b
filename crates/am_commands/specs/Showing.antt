-- Views of a source that a command shows, and the bytes that went out if one stopped.
-- X is the type of versions, S that of sources; `gives` says which map reading a source may give, and `stops` with which fault it
-- may stop; `contents` is what a writer holds.
use Rattle.std.specs.Prelude.{◌≡◌, ℕ, List, Option, Some, None, Result, Ok, Err, ◌⊎◌}
use Rattle.std.specs.Borrow.{Bor}
use Rattle.std.specs.Io.KnownBytes.{Appends}
use Rattle.std.specs.declared.cmp.Ordering.{Ordering}
use Rattle.serde_json.specs.Data.{Data}
use Rattle.am_version_order.specs.Versions.{Version}
use Rattle.am_merge.specs.Maps.{IsMap}
use Rattle.am_report.specs.Views.{StopsWriting}
use Rattle.am_report.specs.Json.Views.{view_line}
use Rattle.am_wire.specs.declared.rows.TheConstants.{MOST_MESSAGE_BYTES}
use Rattle.am_options.specs.declared.source.TheConstants.{STANDARD_INPUT}
use Rattle.am_options.specs.declared.job.ShowJob.{ShowJob}
use Rattle.am_options.specs.declared.job.ViewForm.{ViewForm}
use Rattle.am_options.specs.declared.job.ViewForm.TheVariants.{Lines, Json}
use Rattle.am_commands.specs.declared.fault.SourceFault.{SourceFault}
use Rattle.am_commands.specs.declared.fault.Stopped.{Stopped}
use Rattle.am_commands.specs.declared.fault.Stopped.TheVariants as stopped
use Rattle.am_commands.specs.declared.opened.SourceRequest.{SourceRequest}
use Rattle.am_commands.specs.declared.opened.Keys.TheVariants.{Once}
use Rattle.am_commands.specs.declared.opened.ReadOptions.{ReadOptions}

-- the path, or that of standard input if there is none
abbrev pub file_or_input : Option (Bor (List ℕ)) → List ℕ
file_or_input None = STANDARD_INPUT.now
file_or_input (Some file) = file.now

-- the way in which a job reads its file
abbrev pub show_reading : ShowJob → ReadOptions
show_reading job = record { state = job.state; keys = Once; most = MOST_MESSAGE_BYTES; unknown = job.unknown }

module _ {S : Type 0} (opens : SourceRequest → Result S SourceFault → Type 0) (job : ShowJob) where
  -- opening the file of the job gave this
  pub record OpensFile (gave : Result S SourceFault) : Type 0 where
    pub asked : SourceRequest
    pub file : asked.word.file.now ≡ file_or_input job.file
    pub logs : asked.has_logs ≡ job.has_logs
    pub reading : asked.reading ≡ show_reading job
    pub opened : opens asked gave

  -- it isn't opened, and the writer is as it was; or it was opened, and it stops so
  abbrev pub StopsFile : (S → Stopped → Type 0) → {W : Type 0} → W → W → Stopped → Type 0
  StopsFile stops old new at =
      ((fault : SourceFault) × (at ≡ stopped.Source 0 fault) × OpensFile (Err fault) × (new ≡ old)) ⊎ ((source : S) × OpensFile (Ok source) × stops source at)

-- the view of a map at a moment, in lines or in JSON
abbrev pub shown_text : {K X : Type 0} → (X → Version K) → (ℕ → List X → List ℕ) → (ℕ → X → Data) → ViewForm → ℕ → List X → List ℕ
shown_text seen lines value Lines now held = lines now held
shown_text seen lines value Json now held = view_line seen value now held

module _ {K X S W : Type 0} (seen : X → Version K) (cmp : K → K → Ordering) (gives : S → List X → Type 0) (text : List X → List ℕ)
    (source : S) (contents : W → Option (List ℕ)) where
  -- the source was read, and exactly its text went out
  pub record IsShown (old new : W) : Type 0 where
    pub held : List X
    pub order : IsMap seen cmp held
    pub gave : gives source held
    pub written : Appends (contents old) (contents new) (text held)

module _ {K X S W : Type 0} (seen : X → Version K) (cmp : K → K → Ordering) (gives : S → List X → Type 0) (stops : S → SourceFault → Type 0)
    (text : List X → List ℕ) (source : S) (contents : W → Option (List ℕ)) where
  -- the source is at fault, and the writer is as it was; or it was read, and writing its text stopped
  abbrev pub StopsShowing : W → W → Stopped → Type 0
  StopsShowing old new (stopped.Source number fault) = (number ≡ 0) × (new ≡ old) × stops source fault
  StopsShowing old new (stopped.Output e) =
      (held : List X) × IsMap seen cmp held × gives source held × StopsWriting contents old new (text held) e
