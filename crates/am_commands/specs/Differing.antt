-- Reports of the differences of sources, and the bytes that went out if one stopped.
-- X is the type of versions, S that of sources, as where sources are read; `begins`, `told` and `more` are the words of lines, `by`
-- says by what one version is less than another, and `key_data`, `name` and `value` are the values of JSON, as where
-- differences are told; `contents` is what a writer holds.
use Rattle.std.specs.Prelude.{◌≡◌, ℕ, ◌<◌, Bool, not, List, length, take, Option, if◌then◌else◌}
use Rattle.std.specs.Io.KnownBytes.{Appends}
use Rattle.std.specs.List.{AllZip}
use Rattle.std.specs.declared.cmp.Ordering.{Ordering}
use Rattle.serde_json.specs.Data.{Data}
use Rattle.am_version_order.specs.Versions.{Version}
use Rattle.am_report.specs.Sources.{Source}
use Rattle.am_report.specs.Written.{AreLines}
use Rattle.am_report.specs.Json.Written.{IsLine}
use Rattle.am_report.specs.declared.format.LineFormat.{LineFormat}
use Rattle.am_wire.specs.declared.rows.TheConstants.{MOST_MESSAGE_BYTES}
use Rattle.am_wire.specs.declared.unknown.Unknown.TheVariants.{Drop, Keep}
use Rattle.am_options.specs.declared.job.DiffJob.{DiffJob}
use Rattle.am_options.specs.declared.job.DiffForm.{DiffForm}
use Rattle.am_options.specs.declared.job.DiffForm.TheVariants as reports
use Rattle.am_snapshot.specs.declared.error.SnapshotError.{SnapshotError}
use Rattle.am_snapshot.specs.declared.error.SnapshotError.TheVariants.{Write, Memory}
use Rattle.am_commands.specs.declared.diff.Comparison.{Comparison}
use Rattle.am_commands.specs.declared.opened.Keys.TheVariants.{Repeated}
use Rattle.am_commands.specs.declared.opened.ReadOptions.{ReadOptions}
use Rattle.am_commands.specs.declared.fault.SourceFault.{SourceFault}
use Rattle.am_commands.specs.declared.fault.Stopped.{Stopped}
use Rattle.am_commands.specs.declared.fault.Stopped.TheVariants as stopped
use Rattle.am_commands.specs.declared.source.Input.{Input}
use Rattle.am_commands.specs.Opening.{Wanted, wanted_by}
use Rattle.am_commands.specs.Reading.{IsRead, IsFirstAtFault}
use Rattle.am_commands.specs.Figures.{AreFigures}

-- the comparison that a job asks for at a moment; with a server among the sources no expiries are known
abbrev pub diff_comparison : DiffJob → ℕ → Bool → Comparison
diff_comparison job now is_live = record {
  compared = job.compared;
  report = job.report;
  format = record { moment = now; has_expiries = not is_live; is_long = job.is_long };
}

-- the way in which a job reads each of its sources; with a server among them unknown fields are dropped
abbrev pub diff_reading : DiffJob → Bool → ReadOptions
diff_reading job is_live = record { state = job.state; keys = Repeated; most = MOST_MESSAGE_BYTES; unknown = (if is_live then Drop else Keep) }

-- the sources that a job compares
abbrev pub diff_wants : DiffJob → Bool → Wanted
diff_wants job is_live = wanted_by job.sources.items job.has_logs (diff_reading job is_live)

module _ {K X : Type 0} (seen : X → Version K) (cmp : K → K → Ordering) (begins : K → List ℕ) (told : LineFormat → X → List ℕ)
    (more : LineFormat → X → X → List ℕ) (by : X → X → List ℕ) (key_data : K → Data) (name : List ℕ) (value : ℕ → X → Data) (how : Comparison) where
  -- the text tells all differences of the sources in this form, and `found` says whether there is one
  abbrev pub IsReportIn : DiffForm → List (Source X) → Bool → List ℕ → Type 0
  IsReportIn reports.Lines sources found text =
      AreLines seen cmp begins (told how.format) (more how.format) by how.compared how.format.moment sources found text
  IsReportIn reports.Json sources found text =
      IsLine seen cmp key_data name (value how.format.moment) by how.compared how.format.moment sources found text
  IsReportIn reports.Figures sources found text = AreFigures seen cmp how.compared how.format.moment sources found text

  -- the same in the form that is asked for
  abbrev pub IsReport : List (Source X) → Bool → List ℕ → Type 0
  IsReport sources found text = IsReportIn how.report sources found text

  -- exactly the first bytes of the text went out, and not all; or memory ran out, and the writer is as it was
  abbrev pub StopsReport : List (Source X) → {W : Type 0} → (W → Option (List ℕ)) → W → W → SnapshotError → Type 0
  StopsReport sources contents old new (Write k) =
      (text : List ℕ) × (found : Bool) × IsReport sources found text × (k < length text) × Appends (contents old) (contents new) (take k text)
  StopsReport sources contents old new Memory = new ≡ old
  StopsReport sources contents old new _ = ⊥

  -- all sources were read, and exactly the report on them went out, by which they differ or don't
  pub record IsDiff {S : Type 0} (gives : S → List X → Type 0) (inputs : List (Input S)) {W : Type 0} (contents : W → Option (List ℕ))
      (old new : W) (found : Bool) : Type 0 where
    pub sources : List (Source X)
    pub read : AllZip (IsRead seen cmp gives) inputs sources
    pub text : List ℕ
    pub is : IsReport sources found text
    pub written : Appends (contents old) (contents new) text

  -- the first source at fault, or want of memory, before a byte goes out; or a write that failed
  abbrev pub StopsDiff : {S : Type 0} → (S → List X → Type 0) → (S → SourceFault → Type 0) → List (Input S)
      → {W : Type 0} → (W → Option (List ℕ)) → W → W → Stopped → Type 0
  StopsDiff gives stops inputs contents old new (stopped.Source number fault) =
      (new ≡ old) × IsFirstAtFault seen cmp gives stops inputs number fault
  StopsDiff gives stops inputs contents old new (stopped.Output Memory) = new ≡ old
  StopsDiff gives stops inputs contents old new (stopped.Output e) =
      (sources : List (Source X)) × AllZip (IsRead seen cmp gives) inputs sources × StopsReport sources contents old new e
