-- The row of versions is read as these versions.
use Rattle.std.proofs.Common.{◌≡◌, ℕ, ◌+◌, ◌<◌, ◌≤◌, List, [], ◌∷◌, ◌++◌, length, map, take, get_or, None, Result, sym, ap, subst, ◌∙◌, arith, append-nil}
use Rattle.std.specs.List.{All}
use Rattle.std.proofs.lemmas.List.{map-append, take_more, take_all}
use Rattle.std.proofs.lemmas.List.Elements.{All-nil, All-cons, All-append}
use Rattle.std.proofs.lemmas.List.Concat.{flat_map-append}
use Rattle.am_version_order.specs.Versions.{Version}
use Rattle.am_wire.specs.declared.error.WireError.{WireError}
use Rattle.am_wire.specs.declared.unknown.Unknown.{Unknown}
use Rattle.am_wire.specs.Limits.{most}
use Rattle.am_wire.specs.Writing.{delimited}
use Rattle.am_wire.specs.Inputs.{sound, messages_from, AreMessages}
use Rattle.am_silence.specs.Mesh.{Mesh, IsMesh, mesh_version, without_unknown, writes_mesh_silence}
use Rattle.am_silence.specs.MeshTable.{reads_mesh_silence}
use Rattle.am_silence.specs.RoundTrip.{plain_again}
use Rattle.am_nflog.specs.Mesh.{Mesh as LogMesh, IsMesh as IsLogMesh, mesh_version as entry_version, without_unknown as entry_without_unknown, writes_mesh_entry}
use Rattle.am_nflog.specs.MeshTable.{reads_mesh_entry}
use Rattle.am_nflog.specs.RoundTrip.{plain_again as plain_log_again}
use Rattle.am_snapshot.specs.Encodings.{row_encoding}
use Rattle.am_snapshot.proofs.ReadAgain.{versions_read}
use Rattle.am_gossip.specs.declared.frame.Part.{Part}
use Rattle.am_gossip.specs.declared.frame.StateKey.TheVariants.{Sil, Nfl}
use Rattle.am_instance.specs.Deliveries.{Delivery, before_fault, first_fault, read_as, rows_of}
use Rattle.am_instance.specs.Deliveries.Delivery.{OfSilence, OfEntry}
use Rattle.am_cluster.specs.Versions.{IsReadAgain}
use Rattle.am_cluster.proofs.RoundTrip.{all_before, none_at_fault, read_each}

module _ {K X : Type 0} (seen : X → Version K) (reads : Unknown → ℕ → List ℕ → Result X WireError) where
  rows_read : (versions : List X) (at : ℕ) → All (IsReadAgain seen reads) versions → (unknown : Unknown) → messages_from (reads unknown) at (row_encoding seen versions) ≡ map sound versions
  rows_read versions at good unknown = versions_read seen (reads unknown) versions at (λ k v inside place small. (good k v inside).reads_as unknown place) (λ k v inside. (good k v inside).within)

  -- what was written of lines, and that it is read again
  pub record IsRowOf {L : Type 0} (version : L → X) (lines : List L) (row : List ℕ) : Type 0 where
    pub text : row ≡ row_encoding seen (map version lines)
    pub good : All (IsReadAgain seen reads) (map version lines)

  module _ {L : Type 0} (version : L → X) (lines : List L) where
    pub row_more : (i : ℕ) (row next : List ℕ) (x : L) (v : X) → i < length lines → x ≡ get_or lines i x → v ≡ version x → IsReadAgain seen reads v
        → IsRowOf version (take i lines) row → next ≡ row ++ delimited (seen v).content → IsRowOf version (take (i + 1) lines) next
    row_more i row next x v within is same good so_far written =
        let here : take (i + 1) lines ≡ take i lines ++ x ∷ [] = take_more lines i x within ∙ ap (λ (y : L). take i lines ++ y ∷ []) (sym is) in
        let behind : map version (take (i + 1) lines) ≡ map version (take i lines) ++ v ∷ [] =
        ap (map version) here ∙ map-append version (take i lines) (x ∷ []) ∙ ap (λ (w : X). map version (take i lines) ++ w ∷ []) (sym same) in
        record {
          text = written
              ∙ ap (λ (bytes : List ℕ). bytes ++ delimited (seen v).content) so_far.text
              ∙ ap (λ (bytes : List ℕ). row_encoding seen (map version (take i lines)) ++ bytes) (sym (append-nil (delimited (seen v).content)))
              ∙ sym (flat_map-append (λ (w : X). delimited (seen w).content) (map version (take i lines)) (v ∷ []))
              ∙ ap (row_encoding seen) (sym behind);
          good = subst (All (IsReadAgain seen reads)) (sym behind) (All-append (IsReadAgain seen reads) (map version (take i lines)) (v ∷ []) so_far.good (All-cons (IsReadAgain seen reads) v [] good (All-nil (IsReadAgain seen reads))));
        }

    pub row_end : (i : ℕ) (row bytes : List ℕ) → length lines ≤ i → IsRowOf version (take i lines) row → bytes ≡ row → (unknown : Unknown) → messages_from (reads unknown) 0 bytes ≡ map sound (map version lines)
    row_end i row bytes all so_far is unknown =
        let whole : take i lines ≡ lines = take_all i lines all in
        ap (messages_from (reads unknown) 0) (is ∙ so_far.text) ∙ rows_read (map version (take i lines)) 0 so_far.good unknown
        ∙ ap (λ (ls : List L). map sound (map version ls)) whole

-- ---- versions
pub silence_again : (v : Mesh) → without_unknown v ≡ v → IsMesh v → length (writes_mesh_silence v) ≤ most → IsReadAgain mesh_version reads_mesh_silence v
silence_again v plain is small = record { reads_as = λ unknown at. plain_again unknown v at is (omega (arith, small)) plain; within = small }

pub entry_again : (v : LogMesh) → entry_without_unknown v ≡ v → IsLogMesh v → length (writes_mesh_entry v) ≤ most → IsReadAgain entry_version reads_mesh_entry v
entry_again v plain is small = record { reads_as = λ unknown at. plain_log_again unknown v at is (omega (arith, small)) plain; within = small }

-- the part of such a row
pub record IsPartOf (unknown : Unknown) (part : Part) (versions : List Delivery) : Type 0 where
  pub clean : first_fault (rows_of unknown part ++ []) ≡ None
  pub read : before_fault (rows_of unknown part ++ []) ≡ versions

sound_part : {A : Type 0} (unknown : Unknown) (of_version : A → Delivery) (part : Part) (versions : List A) → rows_of unknown part ≡ map (read_as of_version) (map sound versions)
    → IsPartOf unknown part (map of_version versions)
sound_part unknown of_version part versions rows =
    let all = append-nil (rows_of unknown part) ∙ rows ∙ read_each of_version versions in
    record { clean = ap first_fault all ∙ none_at_fault (map of_version versions); read = ap before_fault all ∙ all_before (map of_version versions) }

pub silences_part : (unknown : Unknown) (bytes : List ℕ) (versions : List Mesh) → AreMessages (reads_mesh_silence unknown) bytes versions → IsPartOf unknown (record { key = Sil; bytes = bytes }) (map OfSilence versions)
unfolding rows_of
silences_part unknown bytes versions are = sound_part unknown OfSilence (record { key = Sil; bytes = bytes }) versions (ap (map (read_as OfSilence)) are)

pub log_part : (unknown : Unknown) (bytes : List ℕ) (versions : List LogMesh) → AreMessages (reads_mesh_entry unknown) bytes versions → IsPartOf unknown (record { key = Nfl; bytes = bytes }) (map OfEntry versions)
unfolding rows_of
log_part unknown bytes versions are = sound_part unknown OfEntry (record { key = Nfl; bytes = bytes }) versions (ap (map (read_as OfEntry)) are)
