-- A frame that was written is read again.
use Rattle.std.proofs.Common.{◌≡◌, ℕ, ◌≤◌, true, List, [], ◌∷◌, ◌++◌, length, map, ap, refl, sym, ◌∙◌, arith, append-nil, length-append}
use Rattle.std.specs.Prelude.{None, Result, Ok, nat_le}
use Rattle.std.specs.List.{All}
use Rattle.std.proofs.lemmas.Bool.{leb-true}
use Rattle.std.proofs.lemmas.List.Elements.{All-nil, All-cons, All-head, All-map, All-tail}
use Rattle.am_wire.specs.declared.error.WireError.{WireError}
use Rattle.am_wire.specs.declared.unknown.Unknown.{Unknown}
use Rattle.am_wire.specs.declared.unknown.Unknown.TheVariants.{Drop, Keep}
use Rattle.am_wire.specs.Inputs.{sound}
use Rattle.am_wire.specs.Unknown.{StaysWhole}
use Rattle.am_wire.specs.Limits.{most}
use Rattle.am_wire.specs.Varint.{shortest}
use Rattle.am_wire.specs.Writing.{delimited}
use Rattle.am_silence.specs.Mesh.{Mesh, IsMesh, mesh_version, without_unknown}
use Rattle.am_silence.specs.MeshTable.{reads_mesh_silence}
use Rattle.am_silence.specs.RoundTrip.{mesh_again, plain_again}
use Rattle.am_nflog.specs.Mesh.{Mesh as LogMesh, IsMesh as IsLogMesh, mesh_version as entry_version, without_unknown as entry_without_unknown}
use Rattle.am_nflog.specs.MeshTable.{reads_mesh_entry}
use Rattle.am_nflog.specs.RoundTrip.{mesh_again as entry_again, plain_again as plain_entry_again}
use Rattle.am_gossip.specs.declared.frame.Part.{Part}
use Rattle.am_gossip.specs.declared.frame.StateKey.TheVariants.{Sil, Nfl}
use Rattle.am_gossip.specs.Frames.{fits}
use Rattle.am_gossip.specs.Parts.{writes_part, writes_parts}
use Rattle.am_gossip.proofs.Limits.{part_holds, states_hold}
use Rattle.am_snapshot.specs.Encodings.{row_encoding}
use Rattle.am_snapshot.proofs.Fits.{shorts}
use Rattle.am_snapshot.proofs.ReadAgain.{IsReadBack, versions_read}
use Rattle.am_instance.specs.Deliveries.{Delivery, IsWhole, read_as, before_fault, first_fault, rows_of, rows_in, parts_of}
use Rattle.am_instance.specs.Deliveries.Delivery.{OfSilence, OfEntry}
use Rattle.am_instance.specs.Sendings.{delta_of, whole_state}
use Rattle.am_cluster.specs.Contents.{carries, entries_in, held_in, silences_in, IsReadable, IsValue}

-- ---- rows without a fault
abbrev read : Delivery → Result Delivery WireError
read d = Ok d

pub all_before : (ds : List Delivery) → before_fault (map read ds) ≡ ds
all_before [] = refl
all_before (d ∷ ds) = ap (λ es. d ∷ es) (all_before ds)

pub none_at_fault : (ds : List Delivery) → first_fault (map read ds) ≡ None
none_at_fault [] = refl
none_at_fault (d ∷ ds) = none_at_fault ds

pub read_each : {V : Type 0} (of_version : V → Delivery) (vs : List V) → map (read_as of_version) (map sound vs) ≡ map read (map of_version vs)
read_each of_version [] = refl
read_each of_version (v ∷ vs) = ap (λ items. Ok (of_version v) ∷ items) (read_each of_version vs)

-- ---- the rows of both states
silence_back : (unknown : Unknown) (v : Mesh) → IsMesh v → StaysWhole without_unknown unknown v → IsReadBack mesh_version (reads_mesh_silence unknown) v
silence_back Keep v is whole at small = mesh_again v at is (omega (arith, small))
silence_back Drop v is whole at small = plain_again Drop v at is (omega (arith, small)) whole

entry_back : (unknown : Unknown) (e : LogMesh) → IsLogMesh e → StaysWhole entry_without_unknown unknown e → IsReadBack entry_version (reads_mesh_entry unknown) e
entry_back Keep e is whole at small = entry_again e at is (omega (arith, small))
entry_back Drop e is whole at small = plain_entry_again Drop e at is (omega (arith, small)) whole

-- what holds of all that is made of some holds of each that it is made of
pub All-unmap : {A B : Type 0} (P : B → Type 0) (f : A → B) (xs : List A) → All P (map f xs) → All (λ x. P (f x)) xs
All-unmap P f [] all = All-nil (λ x. P (f x))
All-unmap P f (x ∷ xs) all = All-cons (λ y. P (f y)) x xs (All-head P (f x) (map f xs) all) (All-unmap P f xs (All-tail P (f x) (map f xs) all))

abbrev silence_part : List Mesh → Part
silence_part vs = record { key = Sil; bytes = row_encoding mesh_version vs }

abbrev entry_part : List LogMesh → Part
entry_part es = record { key = Nfl; bytes = row_encoding entry_version es }

silence_rows : (unknown : Unknown) (vs : List Mesh) → All (IsReadable unknown) (map OfSilence vs) → rows_of unknown (silence_part vs) ≡ map read (map OfSilence vs)
unfolding rows_of
silence_rows unknown vs is =
    let each = All-unmap (IsReadable unknown) OfSilence vs is in
    ap (map (read_as OfSilence))
    (versions_read mesh_version (reads_mesh_silence unknown) vs 0 (λ k v within. silence_back unknown _ (each k v within).value (each k v within).whole) (λ k v within. (each k v within).short))
    ∙ read_each OfSilence vs

entry_rows : (unknown : Unknown) (es : List LogMesh) → All (IsReadable unknown) (map OfEntry es) → rows_of unknown (entry_part es) ≡ map read (map OfEntry es)
unfolding rows_of
entry_rows unknown es is =
    let each = All-unmap (IsReadable unknown) OfEntry es is in
    ap (map (read_as OfEntry))
    (versions_read entry_version (reads_mesh_entry unknown) es 0 (λ k e within. entry_back unknown _ (each k e within).value (each k e within).whole) (λ k e within. (each k e within).short))
    ∙ read_each OfEntry es

-- ---- a Delta
one_readable : (unknown : Unknown) (d : Delivery) → IsReadable unknown d → All (IsReadable unknown) (d ∷ [])
one_readable unknown d is = All-cons (IsReadable unknown) d [] is (All-nil (IsReadable unknown))

pub delta_rows : (unknown : Unknown) (d : Delivery) → IsReadable unknown d → rows_in unknown (parts_of (delta_of d)) ≡ Ok d ∷ []
delta_rows unknown (OfSilence v) is =
    append-nil (rows_of unknown (record { key = Sil; bytes = delimited (mesh_version v).content }))
    ∙ ap (λ (bytes : List ℕ). rows_of unknown (record { key = Sil; bytes = bytes })) (sym (append-nil (delimited (mesh_version v).content)))
    ∙ silence_rows unknown (v ∷ []) (one_readable unknown (OfSilence v) is)
delta_rows unknown (OfEntry e) is =
    append-nil (rows_of unknown (record { key = Nfl; bytes = delimited (entry_version e).content }))
    ∙ ap (λ (bytes : List ℕ). rows_of unknown (record { key = Nfl; bytes = bytes })) (sym (append-nil (delimited (entry_version e).content)))
    ∙ entry_rows unknown (e ∷ []) (one_readable unknown (OfEntry e) is)

pub delta_carries : (unknown : Unknown) (d : Delivery) → IsReadable unknown d → carries unknown (delta_of d) ≡ d ∷ []
delta_carries unknown d is = ap before_fault (delta_rows unknown d is)

-- ---- both maps
map_append : {A B : Type 0} (f : A → B) (xs ys : List A) → map f xs ++ map f ys ≡ map f (xs ++ ys)
map_append f [] ys = refl
map_append f (x ∷ xs) ys = ap (λ zs. f x ∷ zs) (map_append f xs ys)

whole_rows : (unknown : Unknown) (silences : List Mesh) (log : List LogMesh) → All (IsReadable unknown) (map OfSilence silences) → All (IsReadable unknown) (map OfEntry log)
    → rows_in unknown (whole_state silences log) ≡ map read (held_in silences log)
whole_rows unknown silences log is are =
    ap (λ rows. rows ++ (rows_of unknown (entry_part log) ++ [])) (silence_rows unknown silences is)
    ∙ ap (λ rows. map read (map OfSilence silences) ++ rows) (append-nil (rows_of unknown (entry_part log)) ∙ entry_rows unknown log are)
    ∙ map_append read (map OfSilence silences) (map OfEntry log)

pub whole_sound : (unknown : Unknown) (silences : List Mesh) (log : List LogMesh) → All (IsReadable unknown) (map OfSilence silences) → All (IsReadable unknown) (map OfEntry log)
    → first_fault (rows_in unknown (whole_state silences log)) ≡ None
whole_sound unknown silences log is are = ap first_fault (whole_rows unknown silences log is are) ∙ none_at_fault (held_in silences log)

pub whole_carries : (unknown : Unknown) (silences : List Mesh) (log : List LogMesh) → All (IsReadable unknown) (map OfSilence silences) → All (IsReadable unknown) (map OfEntry log)
    → before_fault (rows_in unknown (whole_state silences log)) ≡ held_in silences log
whole_carries unknown silences log is are = ap before_fault (whole_rows unknown silences log is are) ∙ all_before (held_in silences log)

-- ---- what is readable
pub silences_readable : (unknown : Unknown) (vs : List Mesh) → All IsMesh vs → All (StaysWhole without_unknown unknown) vs → length (row_encoding mesh_version vs) ≤ most → All (IsReadable unknown) (map OfSilence vs)
silences_readable unknown vs is whole small = All-map (IsReadable unknown) OfSilence vs (λ k v within. record { value = is k v within; short = shorts mesh_version vs small k v within; whole = whole k v within })

pub entries_readable : (unknown : Unknown) (es : List LogMesh) → All IsLogMesh es → All (StaysWhole entry_without_unknown unknown) es → length (row_encoding entry_version es) ≤ most → All (IsReadable unknown) (map OfEntry es)
entries_readable unknown es is whole small = All-map (IsReadable unknown) OfEntry es (λ k e within. record { value = is k e within; short = shorts entry_version es small k e within; whole = whole k e within })

delta_within : (part : Part) (content : List ℕ) → part.bytes ≡ delimited content → nat_le (length (writes_part part)) 4_194_304 ≡ true → length content ≤ most
delta_within part content is fits =
    let holds = part_holds part in
    let size = ap (λ (bytes : List ℕ). length bytes) is in
    let own = length-append (shortest (length content)) content in
    let small : length (writes_part part) ≤ 4_194_304 = leb-true (length (writes_part part)) 4_194_304 fits in
    omega (arith, holds, size, own, small)

pub delta_readable : (unknown : Unknown) (d : Delivery) → IsValue d → IsWhole unknown d → fits (delta_of d) ≡ true → IsReadable unknown d
delta_readable unknown (OfSilence v) is whole fitting = record { value = is; short = delta_within (record { key = Sil; bytes = delimited (mesh_version v).content }) (mesh_version v).content refl fitting; whole = whole }
delta_readable unknown (OfEntry e) is whole fitting = record { value = is; short = delta_within (record { key = Nfl; bytes = delimited (entry_version e).content }) (entry_version e).content refl fitting; whole = whole }

pub whole_readable : (unknown : Unknown) (silences : List Mesh) (log : List LogMesh) → All IsMesh silences → All IsLogMesh log
    → All (StaysWhole without_unknown unknown) silences → All (StaysWhole entry_without_unknown unknown) log
    → nat_le (length (writes_parts (whole_state silences log))) 67_108_864 ≡ true → All (IsReadable unknown) (map OfSilence silences) × All (IsReadable unknown) (map OfEntry log)
whole_readable unknown silences log is are whole entries_whole fitting =
    let hold = states_hold (row_encoding mesh_version silences) (row_encoding entry_version log) in
    let small : length (writes_parts (whole_state silences log)) ≤ 67_108_864 = leb-true (length (writes_parts (whole_state silences log))) 67_108_864 fitting in
    (silences_readable unknown silences is whole (omega (arith, hold, small)), entries_readable unknown log are entries_whole (omega (arith, hold, small)))

-- ---- parted by their state
pub silences_parted : (silences : List Mesh) (log : List LogMesh) → silences_in (held_in silences log) ≡ silences
silences_parted [] [] = refl
silences_parted [] (e ∷ log) = silences_parted [] log
silences_parted (v ∷ silences) log = ap (λ vs. v ∷ vs) (silences_parted silences log)

pub entries_parted : (silences : List Mesh) (log : List LogMesh) → entries_in (held_in silences log) ≡ log
entries_parted [] [] = refl
entries_parted [] (e ∷ log) = ap (λ es. e ∷ es) (entries_parted [] log)
entries_parted (v ∷ silences) log = entries_parted silences log
