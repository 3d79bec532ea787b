-- The versions that change a map when versions of both states are taken one after the other. X is the type of versions, and
-- `seen` is what the merge sees of one. A map is here the function from a key to its version.
use Rattle.std.specs.Prelude.{◌≡◌, ◌+◌, ◌<◌, length, take, ℕ, Bool, ◌&&◌, List, [], ◌∷◌, ◌++◌, map, Option, if◌then◌else◌}
use Rattle.std.specs.declared.cmp.Ordering.{Ordering}
use Rattle.std.specs.Ordering.{nat_cmp}
use Rattle.std.specs.Cmp.Lexicographic.{slice_cmp}
use Rattle.am_version_order.specs.Versions.{Version, is_live}
use Rattle.am_silence.specs.Mesh.{Mesh, mesh_version}
use Rattle.am_nflog.specs.Mesh.{Mesh as LogMesh, mesh_version as entry_version}
use Rattle.am_nflog.specs.Keys.{key_cmp}
use Rattle.am_nflog.specs.LogKeys.{LogKey}
use Rattle.am_merge.specs.Maps.{is_above, at}
use Rattle.am_collect.specs.Events.{Events, after, after_all}
use Rattle.am_collect.specs.Events.MapEvent.{Delivered}
use Rattle.am_instance.specs.Deliveries.{Delivery, to_silences, to_log}
use Rattle.am_instance.specs.Deliveries.Delivery.{OfSilence, OfEntry}

-- the answer to taking a version is Changed: it is live, and greater than the held one or the first of its key
abbrev pub changes : {K X : Type 0} → (X → Version K) → ℕ → (K → Option X) → X → Bool
changes seen now held v = is_live now (seen v) && is_above seen (held (seen v).key) v

-- the value alone if the test holds, and nothing otherwise
abbrev pub only_if : {A : Type 0} → Bool → A → List A
only_if test x = if test then x ∷ [] else []

-- the versions of one state whose taking is answered Changed
abbrev pub changed : {K X : Type 0} → (X → Version K) → (K → K → Ordering) → ℕ → (K → Option X) → List X → List X
changed seen cmp now held [] = []
changed seen cmp now held (v ∷ vs) = only_if (changes seen now held v) v ++ changed seen cmp now (after seen cmp held (Delivered v) now) vs

-- the versions of both states whose taking is answered Changed
abbrev pub changed_of : ℕ → (List ℕ → Option Mesh) → (LogKey → Option LogMesh) → List Delivery → List Delivery
changed_of now silences log [] = []
changed_of now silences log (OfSilence v ∷ ds) =
    only_if (changes mesh_version now silences v) (OfSilence v)
    ++ changed_of now (after mesh_version (slice_cmp nat_cmp) silences (Delivered v) now) log ds
changed_of now silences log (OfEntry e ∷ ds) =
    only_if (changes entry_version now log e) (OfEntry e)
    ++ changed_of now silences (after entry_version key_cmp log (Delivered e) now) ds

-- the silences after the versions were taken
abbrev pub silences_after : ℕ → (List ℕ → Option Mesh) → List Delivery → List ℕ → Option Mesh
silences_after now silences ds = after_all mesh_version (slice_cmp nat_cmp) silences (map (λ d. (to_silences d, now)) ds)

-- the log after the versions were taken
abbrev pub log_after : ℕ → (LogKey → Option LogMesh) → List Delivery → LogKey → Option LogMesh
log_after now log ds = after_all entry_version key_cmp log (map (λ d. (to_log d, now)) ds)

-- versions taken one after the other at one moment, as events
abbrev pub takings : {X : Type 0} → ℕ → List X → Events X
takings now vs = map (λ v. (Delivered v, now)) vs

-- Only the first versions of a row were taken, not all of them; their number is added to the count.
pub record IsStoppedRow {K X : Type 0} (seen : X → Version K) (cmp : K → K
    → Ordering) (now : ℕ) (old vs new : List X) (before count : ℕ) : Type 0 where
  pub number : ℕ
  pub within : number < length vs
  pub counted : count ≡ before + number
  pub map : (key : K) → at seen cmp new key ≡ after_all seen cmp (at seen cmp old) (takings now (take number vs)) key
