-- The parts of maps that stay as they are have each state whole.
use Rattle.std.proofs.Common.{◌≡◌, ℕ, ◌+◌, ◌≤◌, Bool, List, [], ◌∷◌, ◌++◌, length, if◌then◌else◌, Option, Some, None, refl, sym, ap, ◌∙◌, subst, arith, append-nil, append_assoc}
use Rattle.std.specs.Prelude.{MatchOption}
use Rattle.std.specs.List.{flat_map}
use Rattle.std.specs.Ordering.{nat_cmp}
use Rattle.std.specs.Cmp.Lexicographic.{slice_cmp}
use Rattle.std.specs.declared.cmp.Ordering.{Ordering}
use Rattle.std.proofs.lemmas.Grind.{flat_map-append}
use Rattle.am_version_order.specs.Versions.{Version}
use Rattle.am_wire.specs.Writing.{delimited}
use Rattle.am_merge.specs.Maps.{IsMap, from_key}
use Rattle.am_silence.specs.Mesh.{Mesh, mesh_version}
use Rattle.am_nflog.specs.Mesh.{Mesh as LogMesh, mesh_version as entry_version}
use Rattle.am_nflog.specs.Keys.{key_cmp}
use Rattle.am_nflog.specs.LogKeys.{LogKey}
use Rattle.am_gossip.specs.declared.frame.Part.{Part}
use Rattle.am_gossip.specs.declared.frame.StateKey.{StateKey}
use Rattle.am_gossip.specs.declared.frame.StateKey.TheVariants.{Sil, Nfl}
use Rattle.am_snapshot.specs.Encodings.{row_encoding}
use Rattle.am_snapshot.specs.Pieces.{IsPiece}
use Rattle.am_snapshot.proofs.PieceRows.{some_left, piece_over}
use Rattle.am_instance.specs.Sendings.{whole_state}
use Rattle.am_instance.specs.Handings.{HandsSilences, HandsLog, IsHandedOut, AreHandedOut, alone, is_nfl, is_sil, left_of, rows_of}
use Rattle.am_instance.specs.declared.handing.HandedPart.{HandedPart}
use Rattle.am_instance.specs.declared.handing.Handout.{Handout}
use Rattle.am_instance.specs.declared.handing.Handout.TheVariants.{Silences, Log}

-- from the key of a version on, a map has that version and what stands behind it
abbrev pub GoesOn : {K X : Type 0} → (X → Version K) → (K → K → Ordering) → Type 0
GoesOn {K} {X} seen cmp = (front rest : List X) (v : X) → IsMap seen cmp (front ++ v ∷ rest) → from_key seen cmp (front ++ v ∷ rest) (seen v).key ≡ v ∷ rest

-- what is left stands at the end of the map
pub record Follows {K X : Type 0} (seen : X → Version K) (cmp : K → K → Ordering) (map : List X) (from : Option K) : Type 0 where
  pub front : List X
  pub parts : map ≡ front ++ left_of seen cmp map from

-- so does what a piece leaves, and behind the piece it is all that was left
pub record GoesFurther {K X : Type 0} (seen : X → Version K) (cmp : K → K → Ordering) (map : List X) (from : Option K) (row : List ℕ) (key : K) : Type 0 where
  pub follows : Follows seen cmp map (Some key)
  pub rows : row ++ row_encoding seen (left_of seen cmp map (Some key)) ≡ row_encoding seen (left_of seen cmp map from)

module _ {K X : Type 0} (seen : X → Version K) (cmp : K → K → Ordering) (map : List X) where
  pub follows_all : Follows seen cmp map None
  follows_all = record { front = []; parts = refl }

  pub goes_further : GoesOn seen cmp → IsMap seen cmp map → (most : ℕ) (from : Option K) (row : List ℕ) (key : K) → Follows seen cmp map from → IsPiece seen most (left_of seen cmp map from) (record { row = row; next = Some key }) → GoesFurther seen cmp map from row key
  goes_further goes order most from row key follows piece =
      let leaves = some_left seen most piece.taken piece.left key piece.next in
      let front = follows.front ++ piece.taken in
      let left = left_of seen cmp map from in
      let own : left ≡ piece.taken ++ leaves.version ∷ leaves.rest = piece.parts ∙ ap (λ xs. piece.taken ++ xs) leaves.is in
      let cut : map ≡ front ++ leaves.version ∷ leaves.rest = follows.parts ∙ ap (λ xs. follows.front ++ xs) own ∙ sym (append_assoc follows.front piece.taken (leaves.version ∷ leaves.rest)) in
      let behind : from_key seen cmp map key ≡ leaves.version ∷ leaves.rest =
      ap (from_key seen cmp map) leaves.key_is
      ∙ ap (λ xs. from_key seen cmp xs (seen leaves.version).key) cut
      ∙ goes front leaves.rest leaves.version (subst (IsMap seen cmp) cut order) in
      record {
        follows = record { front = front; parts = cut ∙ ap (λ xs. front ++ xs) (sym behind) };
        rows =
            ap (λ bytes. bytes ++ row_encoding seen (from_key seen cmp map key)) piece.row
            ∙ ap (λ xs. row_encoding seen piece.taken ++ row_encoding seen xs) behind
            ∙ sym (flat_map-append (λ w. delimited (seen w).content) piece.taken (leaves.version ∷ leaves.rest))
            ∙ ap (row_encoding seen) (sym own);
      }

-- the rows of parts of one state, and of both
sil_alone : (row : List ℕ) → rows_of is_sil (alone Sil row) ≡ row
sil_alone row = append-nil row

nfl_alone : (row : List ℕ) → rows_of is_nfl (alone Nfl row) ≡ row
nfl_alone row = append-nil row

sil_both : (silences : List Mesh) (log : List LogMesh) → rows_of is_sil (whole_state silences log) ≡ row_encoding mesh_version silences
sil_both silences log = append-nil (row_encoding mesh_version silences)

nfl_both : (silences : List Mesh) (log : List LogMesh) → rows_of is_nfl (whole_state silences log) ≡ row_encoding entry_version log
nfl_both silences log = append-nil (row_encoding entry_version log)

-- where both fit, the first part is the last
pub small_whole : (most : ℕ) (silences : List Mesh) (log : List LogMesh) (state : List Part) (next : Option Handout) → length (row_encoding mesh_version silences) + length (row_encoding entry_version log) ≤ most → HandsSilences most silences log state next → (state ≡ whole_state silences log) × (next ≡ None)
small_whole most silences log state None fits hands = (hands.0, refl)
small_whole most silences log state (Some (Log None)) fits hands = let over = hands.2 in absurd (omega arith)
small_whole most silences log state (Some (Log (Some key))) fits hands = absurd hands
small_whole most silences log state (Some (Silences None)) fits hands = absurd hands
small_whole most silences log state (Some (Silences (Some key))) fits hands = let over = piece_over mesh_version most silences hands.0 key hands.1 in absurd (omega arith)

module _ (most : ℕ) (silences : List Mesh) (log : List LogMesh) (ids : GoesOn mesh_version (slice_cmp nat_cmp)) (keys : GoesOn entry_version key_cmp) (silences_rise : IsMap mesh_version (slice_cmp nat_cmp) silences) (log_rises : IsMap entry_version key_cmp log) where
  -- what is left, as rows
  abbrev pub sil_row : Handout → List ℕ
  sil_row (Silences from) = row_encoding mesh_version (left_of mesh_version (slice_cmp nat_cmp) silences from)
  sil_row (Log from) = []

  abbrev pub nfl_row : Handout → List ℕ
  nfl_row (Silences from) = row_encoding entry_version log
  nfl_row (Log from) = row_encoding entry_version (left_of entry_version key_cmp log from)

  abbrev pub IsReady : Handout → Type 0
  IsReady (Silences from) = Follows mesh_version (slice_cmp nat_cmp) silences from
  IsReady (Log from) = Follows entry_version key_cmp log from

  -- the last part has what is left
  pub record IsEnd (handout : Handout) (state : List Part) : Type 0 where
    pub of_silences : rows_of is_sil state ≡ sil_row handout
    pub of_log : rows_of is_nfl state ≡ nfl_row handout

  -- another has what the parts behind it don't
  pub record IsPassed (handout : Handout) (state : List Part) (next : Handout) : Type 0 where
    pub ready : IsReady next
    pub of_silences : rows_of is_sil state ++ sil_row next ≡ sil_row handout
    pub of_log : rows_of is_nfl state ++ nfl_row next ≡ nfl_row handout

  silences_pass : (from : Option (List ℕ)) (state : List Part) (next : Option Handout) → IsReady (Silences from) → HandsSilences most (left_of mesh_version (slice_cmp nat_cmp) silences from) log state next → MatchOption next (IsEnd (Silences from) state) (IsPassed (Silences from) state)
  silences_pass from state None ready hands =
      let left = left_of mesh_version (slice_cmp nat_cmp) silences from in
      record {
        of_silences = ap (rows_of is_sil) hands.0 ∙ sil_both left log;
        of_log = ap (rows_of is_nfl) hands.0 ∙ nfl_both left log;
      }
  silences_pass from state (Some (Log None)) ready hands =
      record {
        ready = follows_all entry_version key_cmp log;
        of_silences = append-nil (rows_of is_sil state) ∙ ap (rows_of is_sil) hands.0 ∙ sil_alone (sil_row (Silences from));
        of_log = ap (λ parts. rows_of is_nfl parts ++ row_encoding entry_version log) hands.0;
      }
  silences_pass from state (Some (Log (Some key))) ready hands = absurd hands
  silences_pass from state (Some (Silences None)) ready hands = absurd hands
  silences_pass from state (Some (Silences (Some key))) ready hands =
      let row = hands.0 in
      let further = goes_further mesh_version (slice_cmp nat_cmp) silences ids silences_rise most from row key ready hands.1 in
      record {
        ready = further.follows;
        of_silences = ap (λ parts. rows_of is_sil parts ++ sil_row (Silences (Some key))) hands.2 ∙ ap (λ bytes. bytes ++ sil_row (Silences (Some key))) (sil_alone row) ∙ further.rows;
        of_log = ap (λ parts. rows_of is_nfl parts ++ row_encoding entry_version log) hands.2;
      }

  log_passes : (from : Option LogKey) (state : List Part) (next : Option Handout) → IsReady (Log from) → HandsLog most (left_of entry_version key_cmp log from) state next → MatchOption next (IsEnd (Log from) state) (IsPassed (Log from) state)
  log_passes from state None ready hands =
      record {
        of_silences = ap (rows_of is_sil) hands.0;
        of_log = ap (rows_of is_nfl) hands.0 ∙ nfl_both [] (left_of entry_version key_cmp log from);
      }
  log_passes from state (Some (Log None)) ready hands = absurd hands
  log_passes from state (Some (Log (Some key))) ready hands =
      let row = hands.0 in
      let further = goes_further entry_version key_cmp log keys log_rises most from row key ready hands.1 in
      record {
        ready = further.follows;
        of_silences = ap (λ parts. rows_of is_sil parts ++ []) hands.2;
        of_log = ap (λ parts. rows_of is_nfl parts ++ nfl_row (Log (Some key))) hands.2 ∙ ap (λ bytes. bytes ++ nfl_row (Log (Some key))) (nfl_alone row) ∙ further.rows;
      }
  log_passes from state (Some (Silences key)) ready hands = absurd hands

  passes : (handout : Handout) (handed : HandedPart) → IsReady handout → IsHandedOut most silences log handout handed → MatchOption handed.next (IsEnd handout handed.state) (IsPassed handout handed.state)
  passes (Silences from) handed ready hands = silences_pass from handed.state handed.next ready hands
  passes (Log from) handed ready hands = log_passes from handed.state handed.next ready hands

  -- the parts have all that is left
  pub record HaveAll (handout : Handout) (parts : List Part) : Type 0 where
    pub of_silences : rows_of is_sil parts ≡ sil_row handout
    pub of_log : rows_of is_nfl parts ≡ nfl_row handout

  rows-joined : (is_of : StateKey → Bool) (front back : List Part) → rows_of is_of (front ++ back) ≡ rows_of is_of front ++ rows_of is_of back
  rows-joined is_of front back = flat_map-append (λ p. if is_of p.key then p.bytes else []) front back

  one_more : (handout : Handout) (state : List Part) (others : List HandedPart) (next : Option Handout) → MatchOption next (IsEnd handout state) (IsPassed handout state) → MatchOption next (others ≡ []) (λ behind. AreHandedOut most silences log behind others) → ((behind : Handout) → IsReady behind → AreHandedOut most silences log behind others → HaveAll behind (flat_map (λ p. p.state) others)) → HaveAll handout (state ++ flat_map (λ p. p.state) others)
  one_more handout state others None end none more =
      let whole : state ++ flat_map (λ p. p.state) others ≡ state = ap (λ ps. state ++ flat_map (λ (p : HandedPart). p.state) ps) none ∙ append-nil state in
      record { of_silences = ap (rows_of is_sil) whole ∙ end.of_silences; of_log = ap (rows_of is_nfl) whole ∙ end.of_log }
  one_more handout state others (Some behind) pass rest more =
      let all = more behind pass.ready rest in
      let back = flat_map (λ (p : HandedPart). p.state) others in
      record {
        of_silences = rows-joined is_sil state back ∙ ap (λ bytes. rows_of is_sil state ++ bytes) all.of_silences ∙ pass.of_silences;
        of_log = rows-joined is_nfl state back ∙ ap (λ bytes. rows_of is_nfl state ++ bytes) all.of_log ∙ pass.of_log;
      }

  pub all_out : (parts : List HandedPart) (handout : Handout) → IsReady handout → AreHandedOut most silences log handout parts → HaveAll handout (flat_map (λ p. p.state) parts)
  all_out [] handout ready never = absurd never
  all_out (handed ∷ others) handout ready out = one_more handout handed.state others handed.next (passes handout handed ready out.0) out.1 (all_out others)

  -- from the start on
  pub all_from_start : (parts : List HandedPart) → AreHandedOut most silences log (Silences None) parts → HaveAll (Silences None) (flat_map (λ p. p.state) parts)
  all_from_start parts out = all_out parts (Silences None) (follows_all mesh_version (slice_cmp nat_cmp) silences) out
