-- A line's event comes from the source that the line names.
use Rattle.am_wire.specs.declared.unknown.Unknown.TheVariants.{Drop}
use Rattle.std.proofs.Common.{◌≡◌, ℕ, ◌≤◌, List, [], ◌∷◌, Option, Some, None, Result, Ok, Err, IfOk, refl, sym, subst}
use Rattle.std.specs.Prelude.{All}
use Rattle.std.proofs.lemmas.List.Elements.{All-nil, All-cons, All-head, All-tail}
use Rattle.am_silence.specs.Mesh.{mesh_version}
use Rattle.am_nflog.specs.Mesh.{mesh_version as entry_version}
use Rattle.am_instance.specs.Configs.{Settings, place_named}
use Rattle.am_instance.specs.Deliveries.{Delivery}
use Rattle.am_instance.specs.Deliveries.Delivery.{OfSilence, OfEntry}
use Rattle.am_cluster.specs.Contents.{silences_in, entries_in}
use Rattle.am_schedule.specs.declared.step.LineEvent.{LineEvent}
use Rattle.am_schedule.specs.declared.step.LineEvent.TheVariants as lines
use Rattle.am_schedule.specs.declared.step.Versions.{Versions}
use Rattle.am_cluster.specs.declared.resolved_event.ResolvedEvent.{ResolvedEvent}
use Rattle.am_cluster.specs.LineEvents.{Brings, IsSentBefore, asked_by, brought_by, from, pull}
use Rattle.am_cluster.specs.Versions.{sent_at, updated, versions_of}
use Rattle.am_cluster.specs.Steps.{Fits}

-- what holds of all deliveries holds of those of a state
all_silences : (sent : ℕ) (ds : List Delivery) → All (λ d. sent ≤ updated d) ds → All (λ v. sent ≤ (mesh_version v).updated) (silences_in ds)
all_silences sent [] all = All-nil (λ v. sent ≤ (mesh_version v).updated)
all_silences sent (OfSilence v ∷ ds) all = All-cons (λ w. sent ≤ (mesh_version w).updated) v (silences_in ds) (All-head (λ d. sent ≤ updated d) (OfSilence v) ds all) (all_silences sent ds (All-tail (λ d. sent ≤ updated d) (OfSilence v) ds all))
all_silences sent (OfEntry e ∷ ds) all = all_silences sent ds (All-tail (λ d. sent ≤ updated d) (OfEntry e) ds all)

all_entries : (sent : ℕ) (ds : List Delivery) → All (λ d. sent ≤ updated d) ds → All (λ e. sent ≤ (entry_version e).updated) (entries_in ds)
all_entries sent [] all = All-nil (λ e. sent ≤ (entry_version e).updated)
all_entries sent (OfSilence v ∷ ds) all = all_entries sent ds (All-tail (λ d. sent ≤ updated d) (OfSilence v) ds all)
all_entries sent (OfEntry e ∷ ds) all = All-cons (λ w. sent ≤ (entry_version w).updated) e (entries_in ds) (All-head (λ d. sent ≤ updated d) (OfEntry e) ds all) (all_entries sent ds (All-tail (λ d. sent ≤ updated d) (OfEntry e) ds all))

from_fits : (o : Option ℕ) (versions : Versions) → IsSentBefore (from o versions) (versions_of versions) → Brings (from o versions) (versions_of versions) → Fits (from o versions)
from_fits None versions sent brings = tt
from_fits (Some sender) versions sent brings = λ members now. (
  λ before. subst (λ ds. All (λ v. sent_at (versions_of versions) ≤ (mesh_version v).updated) (silences_in ds)) (sym (brings Drop)) (all_silences (sent_at (versions_of versions)) (versions_of versions) sent),
  λ before. subst (λ ds. All (λ e. sent_at (versions_of versions) ≤ (entry_version e).updated) (entries_in ds)) (sym (brings Drop)) (all_entries (sent_at (versions_of versions)) (versions_of versions) sent),
)

pull_fits : (o : Option ℕ) → Fits (pull o)
pull_fits None = tt
pull_fits (Some place) = λ members now. (λ before. refl, λ before. refl)

-- the event of a line and its source fit, in whatever run
pub line_fits : (config : Settings) (line : LineEvent) → IsSentBefore (asked_by config line) (brought_by line) → Brings (asked_by config line) (brought_by line) → Fits (asked_by config line)
line_fits config (lines.From peer versions) sent brings = from_fits (place_named config peer) versions sent brings
line_fits config (lines.Post post) sent brings = λ members now. (λ before. refl, λ before. refl)
line_fits config (lines.Expire id) sent brings = λ members now. (λ before. refl, λ before. refl)
line_fits config (lines.Notified group) sent brings = λ members now. (λ before. refl, λ before. refl)
line_fits config (lines.Decide group wanted) sent brings = λ members now. (λ before. refl, λ before. refl)
line_fits config (lines.Mutes labels) sent brings = λ members now. (λ before. refl, λ before. refl)
line_fits config lines.Show sent brings = λ members now. (λ before. refl, λ before. refl)
line_fits config lines.Tick sent brings = λ members now. (λ before. refl, λ before. refl)
line_fits config (lines.Pull peer) sent brings = pull_fits (place_named config peer)
line_fits config lines.Start sent brings = tt

pub asked_fits : (config : Settings) (line : LineEvent) (asked : ResolvedEvent) → asked ≡ asked_by config line → IsSentBefore asked (brought_by line) → Brings asked (brought_by line) → Fits asked
asked_fits config line asked same sent brings =
    subst Fits (sym same) (line_fits config line (subst (λ a. IsSentBefore a (brought_by line)) same sent) (subst (λ a. Brings a (brought_by line)) same brings))

pub all_fit : {E : Type 0} (config : Settings) (line : LineEvent) (result : Result ResolvedEvent E) → IfOk result (λ a. a ≡ asked_by config line) → IfOk result (λ a. IsSentBefore a (brought_by line)) → IfOk result (λ a. Brings a (brought_by line)) → IfOk result Fits
all_fit config line (Ok asked) same sent brings = asked_fits config line asked same sent brings
all_fit config line (Err e) same sent brings = tt
