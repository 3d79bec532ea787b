-- The unknown fields of versions, and versions without them, by their texts.
use Rattle.std.proofs.Common.{◌≡◌, ℕ, ◌^◌, ◌<◌, List, length, Option, Some, None, Ok, refl, ap, ◌∙◌, arith}
use Rattle.am_wire.specs.declared.unknown.Unknown.TheVariants.{Drop, Keep}
use Rattle.am_wire.specs.declared.unknown.UnknownFields.{UnknownFields}
use Rattle.am_wire.specs.declared.error.WireError.{WireError}
use Rattle.am_wire.specs.Expiring.{expiring, expiring_value}
use Rattle.am_wire.specs.Reading.{fault_or_value, fields_in}
use Rattle.am_wire.specs.RoundTrip.Expiring.{read_alike}
use Rattle.am_wire.specs.Unknown.{plainly, unknown_fields}
use Rattle.am_silence.specs.Mesh.{Mesh, IsMesh, without_unknown, silence_numbers, writes_mesh_silence}
use Rattle.am_silence.specs.MeshTable.{mesh_of, reads_mesh_silence}
use Rattle.am_silence.specs.RoundTrip.{mesh_again, mesh_dropped}
use Rattle.am_silence.specs.Silences.{silence, silence_value}
use Rattle.am_nflog.specs.Entries.{entry}
use Rattle.am_nflog.specs.Mesh.{Mesh as LogMesh, IsMesh as IsLogMesh, without_unknown as without_unknown_entry, entry_numbers, writes_mesh_entry}
use Rattle.am_nflog.specs.MeshTable.{reads_mesh_entry}
use Rattle.am_nflog.specs.RoundTrip as log

-- ---- of a silence

abbrev pub fields_of_silence : List ℕ → UnknownFields
fields_of_silence text = unknown_fields Keep silence_numbers (fields_in (expiring silence) 0 text) text

-- what was read without a fault is the value
value_given : {A : Type 0} (fault : Option WireError) (v m : A) → fault_or_value fault v ≡ Ok m → v ≡ m
value_given None v m is = let same : v ≡ m = cc in same
value_given (Some e) v m is = absurd cc

-- those of a version's text are its own
unknown_again : (m : Mesh) (text : List ℕ) → IsMesh m → text ≡ writes_mesh_silence m → fields_of_silence text ≡ m.unknown
unfolding reads_mesh_silence
unknown_again m text is written =
    let small : length (writes_mesh_silence m) < 2 ^ 64 = (let size = is.size in omega arith) in
    let es = fields_in (expiring silence) 0 text in
    ap (λ (v : Mesh). v.unknown)
    (value_given _ (mesh_of (fields_of_silence text, expiring_value silence silence_value es)) m (ap (reads_mesh_silence Keep 0) written ∙ mesh_again m 0 is small))

pub silence_unknown : (m : Mesh) (text : List ℕ) (fields : UnknownFields) → IsMesh m → text ≡ writes_mesh_silence m → fields ≡ fields_of_silence text → fields ≡ m.unknown
silence_unknown m text fields is written read = read ∙ unknown_again m text is written

pub silence_known : (m known : Mesh) (text : List ℕ) → IsMesh m → text ≡ writes_mesh_silence m → reads_mesh_silence Drop 0 text ≡ Ok known → known ≡ without_unknown m
silence_known m known text is written read =
    let small : length (writes_mesh_silence m) < 2 ^ 64 = (let size = is.size in omega arith) in
    let plain : reads_mesh_silence Drop 0 text ≡ Ok (without_unknown m) =
    ap (reads_mesh_silence Drop 0) written ∙ mesh_dropped 0 (writes_mesh_silence m) ∙ ap (plainly without_unknown) (mesh_again m 0 is small) in
    read_alike (reads_mesh_silence Drop 0) read plain refl

-- ---- of an entry of the log

abbrev pub fields_of_entry : List ℕ → UnknownFields
fields_of_entry text = unknown_fields Keep entry_numbers (fields_in (expiring entry) 0 text) text

pub entry_unknown : (m : LogMesh) (text : List ℕ) (fields : UnknownFields) → IsLogMesh m → text ≡ writes_mesh_entry m → fields ≡ fields_of_entry text → fields ≡ m.unknown
entry_unknown m text fields is written read = read ∙ log.unknown_again m text is written

pub entry_known : (m known : LogMesh) (text : List ℕ) → IsLogMesh m → text ≡ writes_mesh_entry m → reads_mesh_entry Drop 0 text ≡ Ok known → known ≡ without_unknown_entry m
entry_known m known text is written read =
    let small : length (writes_mesh_entry m) < 2 ^ 64 = (let size = is.size in omega arith) in
    let plain : reads_mesh_entry Drop 0 text ≡ Ok (without_unknown_entry m) =
    ap (reads_mesh_entry Drop 0) written ∙ log.mesh_dropped 0 (writes_mesh_entry m) ∙ ap (plainly without_unknown_entry) (log.mesh_again m 0 is small) in
    read_alike (reads_mesh_entry Drop 0) read plain refl
