-- A row that is read without a fault is read as the versions that it was made of.
use Rattle.std.proofs.Common.{◌≡◌, ⊎_elim, ℕ, ◌+◌, ◌-◌, ◌^◌, ◌<◌, ◌≤◌, List, [], ◌∷◌, ◌++◌, length, map, Result, Ok, Err, refl, sym, ap, ◌∙◌, arith, length-append, append_assoc}
use Rattle.std.specs.List.{All}
use Rattle.std.proofs.lemmas.Bool.{cases_lt, lt-ltb}
use Rattle.std.proofs.lemmas.List.Elements.{All-cons, All-nil, All-head, All-tail}
use Rattle.std.proofs.Math.Seq.{drop-append_seam}
use Rattle.am_version_order.specs.Versions.{Version}
use Rattle.am_wire.specs.declared.error.WireError.{WireError}
use Rattle.am_wire.specs.declared.error.WireError.TheVariants.{TooLarge}
use Rattle.am_wire.specs.Fields.{row_at}
use Rattle.am_wire.specs.Grammar.{IsRow}
use Rattle.am_wire.specs.Limits.{most}
use Rattle.am_wire.specs.Varint.{shortest}
use Rattle.am_wire.specs.Writing.{delimited}
use Rattle.am_wire.specs.RoundTrip.Pieces.{pieces-first}
use Rattle.am_wire.specs.RoundTrip.Varints.{varint_again, shortest_spells, shortest_filled}
use Rattle.am_wire.specs.Inputs.{sound, message_at, messages_from}
use Rattle.am_wire.proofs.Exact.{lists_are, row_read}
use Rattle.am_snapshot.specs.Encodings.{row_encoding}
use Rattle.am_snapshot.proofs.Fits.{IsShort}
use Rattle.am_snapshot.proofs.OneFault.{no_fault, tail_is}
use Rattle.am_snapshot.proofs.ReadAgain.{IsReadBack, versions_read}
use Rattle.am_snapshot.proofs.RowReads.{from-fault}

-- bytes behind their length are the first row, whatever follows
first_row : (bytes : List ℕ) (at : ℕ) (rest : List ℕ) → length bytes ≤ most → row_at at (delimited bytes ++ rest) ≡ Ok (bytes, length (delimited bytes))
first_row bytes at rest small =
    let row : IsRow bytes at (delimited bytes) = record { size = shortest (length bytes); size_is = shortest_spells (length bytes) (omega arith); text_is = refl; not_large = small } in
    (row_read bytes at (delimited bytes) row).reads rest

-- and a fault if they are too long
too_large : (bytes : List ℕ) (at : ℕ) (rest : List ℕ) → length bytes < 2 ^ 64 → most < length bytes → row_at at (delimited bytes ++ rest) ≡ Err TooLarge
unfolding row_at
too_large bytes at rest small long =
    rw (append_assoc (shortest (length bytes)) bytes rest, varint_again at (length bytes) (bytes ++ rest) small, lt-ltb most (length bytes) long) refl

module _ {K X : Type 0} (seen : X → Version K) (reads : ℕ → List ℕ → Result X WireError) where
  abbrev content : X → List ℕ
  content v = (seen v).content

  message_first : (v : X) (at : ℕ) (rest : List ℕ) → IsReadBack seen reads v → IsShort seen v
      → message_at reads at (delimited (content v) ++ rest) ≡ Ok (v, length (delimited (content v)))
  message_first v at rest back short =
      rw (first_row (content v) at rest short, back (at + (length (delimited (content v)) - length (content v))) short) refl

  filled : (v : X) → 0 < length (delimited (content v))
  filled v = omega (arith, length-append (shortest (length (content v))) (content v), shortest_filled (length (content v)))

  one_first : (v : X) (at : ℕ) (rest : List ℕ) → IsReadBack seen reads v → IsShort seen v
      → messages_from reads at (delimited (content v) ++ rest) ≡ sound v ∷ messages_from reads (at + length (delimited (content v))) rest
  one_first v at rest back short =
      pieces-first (message_at reads) at (delimited (content v) ++ rest) (v, length (delimited (content v))) (message_first v at rest back short) (filled v) (omega (arith, length-append (delimited (content v)) rest))
      ∙ ap (λ (left : List ℕ). sound v ∷ messages_from reads (at + length (delimited (content v))) left) (drop-append_seam (delimited (content v)) rest)

  never : (v : X) (at : ℕ) (rest : List ℕ) (others : List X) → length (content v) < 2 ^ 64 → most < length (content v)
      → messages_from reads at (delimited (content v) ++ rest) ≡ map sound others → ⊥
  never v at rest others small long read =
      let fault : message_at reads at (delimited (content v) ++ rest) ≡ Err TooLarge = rw (too_large (content v) at rest small long) refl in
      no_fault reads [] others TooLarge (sym (from-fault reads at (delimited (content v) ++ rest) TooLarge fault (omega (arith, filled v, length-append (delimited (content v)) rest))) ∙ read)

  behind : {P : Type 0} (v : X) (left : List (Result X WireError)) (others : List X) → sound v ∷ left ≡ map sound others → ((rest : List X) → left ≡ map sound rest → P) → P
  behind v left [] same then = absurd cc
  behind v left (w ∷ rest) same then = then rest (tail_is reads v w left (map sound rest) same)

  shorts_read : (versions others : List X) (at : ℕ) → All (IsReadBack seen reads) versions → length (row_encoding seen versions) < 2 ^ 64
      → messages_from reads at (row_encoding seen versions) ≡ map sound others → All (IsShort seen) versions
  shorts_read [] others at back small read = All-nil (IsShort seen)
  shorts_read (v ∷ versions) others at back small read =
      let rest = row_encoding seen versions in
      let own = length-append (shortest (length (content v))) (content v) in
      let both = length-append (delimited (content v)) rest in
      let size = length (delimited (content v)) in
      ⊎_elim (λ long. absurd (never v at rest others (omega (arith, small, own, both)) long read))
      (λ short. behind v (messages_from reads (at + size) rest) others (sym (one_first v at rest (All-head (IsReadBack seen reads) v versions back) short) ∙ read) (λ more is.
      All-cons (IsShort seen) v versions short (shorts_read versions more (at + size) (All-tail (IsReadBack seen reads) v versions back) (omega (arith, small, both)) is)))
      (cases_lt most (length (content v)))

  pub read_same : (versions others : List X) → All (IsReadBack seen reads) versions → length (row_encoding seen versions) < 2 ^ 64
      → messages_from reads 0 (row_encoding seen versions) ≡ map sound others → others ≡ versions
  read_same versions others back small read =
      lists_are others versions (sym read ∙ versions_read seen reads versions 0 back (shorts_read versions others 0 back small read))
