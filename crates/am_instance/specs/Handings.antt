-- Both states, handed out part by part.
use Rattle.std.specs.Prelude.{◌≡◌, ℕ, ◌+◌, ◌<◌, ◌≤◌, Bool, true, false, ◌&&◌, List, [], ◌∷◌, length, if◌then◌else◌, Option, Some, None, MatchOption}
use Rattle.std.specs.List.{flat_map, list_any}
use Rattle.std.specs.Ordering.{nat_cmp}
use Rattle.std.specs.Cmp.Lexicographic.{slice_cmp}
use Rattle.std.specs.declared.cmp.Ordering.{Ordering}
use Rattle.am_version_order.specs.Versions.{Version}
use Rattle.am_merge.specs.Maps.{from_key}
use Rattle.am_silence.specs.Mesh.{Mesh, mesh_version}
use Rattle.am_nflog.specs.Mesh.{Mesh as LogMesh, mesh_version as entry_version}
use Rattle.am_nflog.specs.Keys.{key_cmp}
use Rattle.am_gossip.specs.declared.frame.Part.{Part}
use Rattle.am_gossip.specs.declared.frame.StateKey.{StateKey}
use Rattle.am_gossip.specs.declared.frame.StateKey.TheVariants.{Sil, Nfl}
use Rattle.am_snapshot.specs.Encodings.{row_encoding}
use Rattle.am_snapshot.specs.Pieces.{IsPiece}
use Rattle.am_instance.specs.Sendings.{whole_state}
use Rattle.am_instance.specs.declared.handing.HandedPart.{HandedPart}
use Rattle.am_instance.specs.declared.handing.Handout.{Handout}
use Rattle.am_instance.specs.declared.handing.Handout.TheVariants.{Silences, Log}

-- the rest of a map: all of it, or the versions from a key on
abbrev pub left_of : {K X : Type 0} → (X → Version K) → (K → K → Ordering) → List X → Option K → List X
left_of seen cmp map None = map
left_of seen cmp map (Some key) = from_key seen cmp map key

-- the state is that of the silences
abbrev pub is_sil : StateKey → Bool
is_sil Sil = true
is_sil Nfl = false

-- the state is that of the log
abbrev pub is_nfl : StateKey → Bool
is_nfl Sil = false
is_nfl Nfl = true

-- there are parts of both states
abbrev pub names_both : List Part → Bool
names_both parts = list_any (λ p. is_sil p.key) parts && list_any (λ p. is_nfl p.key) parts

-- the rows of one state, one after the other
abbrev pub rows_of : (StateKey → Bool) → List Part → List ℕ
rows_of is_of parts = flat_map (λ p. if is_of p.key then p.bytes else []) parts

-- one row of one state
abbrev pub alone : StateKey → List ℕ → List Part
alone key row = record { key = key; bytes = row } ∷ []

-- a piece of a row goes out alone, and others follow it from a key on
abbrev pub GoesAlone : {K X : Type 0} → (X → Version K) → ℕ → StateKey → List X → K → List Part → Type 0
GoesAlone seen most key left next state = (row : List ℕ) × IsPiece seen most left (record { row = row; next = Some next }) × (state ≡ alone key row)

-- `most` is the maximum number of bytes in the rows of a part, unless a single version has more
module _ (most : ℕ) where
  -- The part that goes out if silences are left, and the whole log: the last part, if both fit it; otherwise the rest of the
  -- silences, if it fits and nothing of the log went out with it; or a piece of them.
  abbrev pub HandsSilences : List Mesh → List LogMesh → List Part → Option Handout → Type 0
  HandsSilences silences log state None =
      (state ≡ whole_state silences log)
      × (length (row_encoding mesh_version silences) + length (row_encoding entry_version log) ≤ most)
  HandsSilences silences log state (Some (Log None)) =
      (state ≡ alone Sil (row_encoding mesh_version silences))
      × IsPiece mesh_version most silences (record { row = row_encoding mesh_version silences; next = None })
      × (most < length (row_encoding mesh_version silences) + length (row_encoding entry_version log))
  HandsSilences silences log state (Some (Silences (Some key))) = GoesAlone mesh_version most Sil silences key state
  HandsSilences silences log state (Some _) = ⊥

  -- The part that goes out if only entries of the log are left: the last part, if they fit it, and otherwise a piece of them.
  abbrev pub HandsLog : List LogMesh → List Part → Option Handout → Type 0
  HandsLog log state None =
      (state ≡ whole_state [] log)
      × IsPiece entry_version most log (record { row = row_encoding entry_version log; next = None })
  HandsLog log state (Some (Log (Some key))) = GoesAlone entry_version most Nfl log key state
  HandsLog log state (Some _) = ⊥

  -- the next part of all that is held, and the progress after it
  abbrev pub IsHandedOut : List Mesh → List LogMesh → Handout → HandedPart → Type 0
  IsHandedOut silences log (Silences from) handed =
      HandsSilences (left_of mesh_version (slice_cmp nat_cmp) silences from) log handed.state handed.next
  IsHandedOut silences log (Log from) handed = HandsLog (left_of entry_version key_cmp log from) handed.state handed.next

  -- these are all parts, from the first to the last, handed out of maps that stay as they are
  abbrev pub AreHandedOut : List Mesh → List LogMesh → Handout → List HandedPart → Type 0
  AreHandedOut silences log handout [] = ⊥
  AreHandedOut silences log handout (handed ∷ others) =
      IsHandedOut silences log handout handed
      × MatchOption handed.next (others ≡ []) (λ next. AreHandedOut silences log next others)
