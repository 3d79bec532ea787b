-- A row of versions is read again as those versions.
use Rattle.std.proofs.Common.{◌≡◌, ℕ, ◌+◌, ◌-◌, ◌^◌, ◌<◌, ◌≤◌, List, [], ◌∷◌, ◌++◌, length, map, Result, Ok, refl, ap, ◌∙◌, arith, length-append}
use Rattle.std.proofs.Math.Seq.{drop-append_seam}
use Rattle.std.specs.List.{All}
use Rattle.std.proofs.lemmas.List.Elements.{All-head, All-tail}
use Rattle.std.specs.declared.cmp.Ordering.{Ordering}
use Rattle.am_version_order.specs.Versions.{Version}
use Rattle.am_wire.specs.declared.error.WireError.{WireError}
use Rattle.am_wire.specs.declared.unknown.Unknown.{Unknown}
use Rattle.am_wire.specs.declared.unknown.Unknown.TheVariants.{Drop, Keep}
use Rattle.am_wire.specs.Fields.{row_at, pieces}
use Rattle.am_wire.specs.Unknown.{plainly, StaysWhole}
use Rattle.am_wire.specs.RoundTrip.Plain.{read_whole}
use Rattle.am_wire.specs.Varint.{shortest}
use Rattle.am_wire.specs.Writing.{delimited}
use Rattle.am_wire.specs.Grammar.{IsRow}
use Rattle.am_wire.specs.RoundTrip.Varints.{shortest_spells, shortest_filled}
use Rattle.am_wire.specs.RoundTrip.Pieces.{pieces-first}
use Rattle.am_wire.specs.Limits.{most}
use Rattle.am_wire.specs.Inputs.{sound, message_at, messages_from}
use Rattle.am_wire.proofs.Exact.{row_read}
use Rattle.am_snapshot.specs.Saving.{IsSavableWithin}
use Rattle.am_snapshot.specs.Encodings.{row_encoding}
use Rattle.am_snapshot.proofs.Fits.{IsShort}

-- bytes behind their length are the first row, whatever follows
first_row : (bytes : List ℕ) (at : ℕ) (rest : List ℕ) → length bytes ≤ most → row_at at (delimited bytes ++ rest) ≡ Ok (bytes, length (delimited bytes))
first_row bytes at rest small =
    let row : IsRow bytes at (delimited bytes) = record { size = shortest (length bytes); size_is = shortest_spells (length bytes) (omega arith); text_is = refl; not_large = small } in
    (row_read bytes at (delimited bytes) row).reads rest

module _ {K X : Type 0} (seen : X → Version K) (reads : ℕ → List ℕ → Result X WireError) where
  -- the version is read of its content, wherever that stands
  abbrev pub IsReadBack : X → Type 0
  IsReadBack v = (at : ℕ) → length (seen v).content ≤ most → reads at (seen v).content ≡ Ok v

  first_message : (v : X) (at : ℕ) (rest : List ℕ) → IsReadBack v → length (seen v).content ≤ most
      → message_at reads at (delimited (seen v).content ++ rest) ≡ Ok (v, length (delimited (seen v).content))
  first_message v at rest back small =
      let content = (seen v).content in
      rw (first_row content at rest small, back (at + (length (delimited content) - length content)) small) refl

  pub versions_read : (versions : List X) (at : ℕ) → All IsReadBack versions → All (IsShort seen) versions → messages_from reads at (row_encoding seen versions) ≡ map sound versions
  unfolding pieces
  versions_read [] at back short = refl
  versions_read (v ∷ versions) at back short =
      let content = (seen v).content in
      let rest = row_encoding seen versions in
      let len = length-append (delimited content) rest in
      let own = length-append (shortest (length content)) content in
      let filled = shortest_filled (length content) in
      let one = first_message v at rest (All-head IsReadBack v versions back) (All-head (IsShort seen) v versions short) in
      pieces-first (message_at reads) at (delimited content ++ rest) (v, length (delimited content)) one (omega (arith, own, filled)) (omega (arith, len))
      ∙ ap (λ (left : List ℕ). sound v ∷ pieces (message_at reads) 0 (at + length (delimited content)) left) (drop-append_seam (delimited content) rest)
      ∙ ap (λ (others : List (Result X WireError)). sound v ∷ others)
      (versions_read versions (at + length (delimited content)) (All-tail IsReadBack v versions back) (All-tail (IsShort seen) v versions short))

-- so is a version of which nothing is lost, by what is done with unknown fields
module _ {K X : Type 0} (seen : X → Version K) (plain : X → X) (reads : Unknown → ℕ → List ℕ → Result X WireError)
    (dropped : (at : ℕ) (bytes : List ℕ) → reads Drop at bytes ≡ plainly plain (reads Keep at bytes)) (unknown : Unknown) where
  pub read_back : (writes : X → List ℕ) (is_value is_written : X → Type 0) → ((v : X) (at : ℕ) → is_written v → length (writes v) < 2 ^ 64 → reads Keep at (writes v) ≡ Ok v)
      → ((v : X) → is_value v → is_written v × ((seen v).content ≡ writes v)) → (v : X) → is_value v × StaysWhole plain unknown v → IsReadBack seen (reads unknown) v
  read_back writes is_value is_written again written v (value, stays) at small =
      let (both, same) = written v value in
      let kept = ap (λ (text : List ℕ). reads Keep at text) same ∙ again v at both (omega (arith, small, ap length same)) in
      read_whole plain reads dropped unknown v at (seen v).content stays kept

pub whole_savable : {K X : Type 0} (seen : X → Version K) (cmp : K → K → Ordering) (is_value stays : X → Type 0) (limit : ℕ) (map : List X)
    → IsSavableWithin seen cmp is_value limit map → All stays map → IsSavableWithin seen cmp (λ v. is_value v × stays v) limit map
whole_savable seen cmp is_value stays limit map savable stay =
    record { order = savable.order; values = λ k d h. (savable.values k d h, stay k d h); fits = savable.fits }
