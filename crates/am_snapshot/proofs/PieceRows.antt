-- The row of a piece, version by version.
use Rattle.std.proofs.Common.{◌≡◌, ◌⊎◌, ℕ, ◌+◌, ◌<◌, ◌≤◌, List, [], ◌∷◌, ◌++◌, length, Some, None, inl, inr, refl, sym, ap, ◌∙◌, subst, arith, append-nil, append_assoc, length-append}
use Rattle.std.proofs.lemmas.Grind.{flat_map-append}
use Rattle.std.specs.declared.cmp.Ordering.{Ordering}
use Rattle.am_version_order.specs.Versions.{Version}
use Rattle.am_merge.specs.Maps.{IsMap, from_key}
use Rattle.am_merge.proofs.Keys.{IsKeyOrder}
use Rattle.am_merge.proofs.Fronts.{from_version}
use Rattle.am_wire.specs.Writing.{delimited}
use Rattle.am_wire.specs.Varint.{shortest}
use Rattle.am_wire.specs.RoundTrip.Varints.{shortest_filled}
use Rattle.am_snapshot.specs.Encodings.{row_encoding}
use Rattle.am_snapshot.specs.Pieces.{IsPiece, GoesOn}

pub delimited_filled : (content : List ℕ) → 0 < length (delimited content)
delimited_filled content =
    let joined = length-append (shortest (length content)) content in
    let filled = shortest_filled (length content) in
    omega arith

module _ {K X : Type 0} (seen : X → Version K) (most : ℕ) where
  -- the row is that of the versions before those that are left
  pub record IsFront (all left : List X) (row : List ℕ) : Type 0 where
    pub taken : List X
    pub parts : all ≡ taken ++ left
    pub text : row ≡ row_encoding seen taken
    pub fits : (length taken ≤ 1) ⊎ (length row ≤ most)

  row_encoding-one : (taken : List X) (v : X) → row_encoding seen (taken ++ v ∷ []) ≡ row_encoding seen taken ++ delimited (seen v).content
  row_encoding-one taken v =
      flat_map-append (λ w. delimited (seen w).content) taken (v ∷ [])
      ∙ ap (λ bytes. row_encoding seen taken ++ bytes) (append-nil (delimited (seen v).content))

  none_taken : (taken : List X) → row_encoding seen taken ≡ [] → length taken ≡ 0
  none_taken [] empty = refl
  none_taken (v ∷ rest) empty =
      let filled = delimited_filled (seen v).content in
      let joined = length-append (delimited (seen v).content) (row_encoding seen rest) in
      let none = ap length empty in
      absurd (omega arith)

  some_taken : (taken : List X) → 0 < length (row_encoding seen taken) → 0 < length taken
  some_taken [] filled = absurd (omega arith)
  some_taken (v ∷ rest) filled = omega arith

  pub front_begins : (all : List X) → IsFront all all []
  front_begins all = record { taken = []; parts = refl; text = refl; fits = inl (omega arith) }

  pub front_grows : (all : List X) (v : X) (left : List X) (row : List ℕ) → (row ≡ []) ⊎ (length row + length (delimited (seen v).content) ≤ most) → IsFront all (v ∷ left) row → IsFront all left (row ++ delimited (seen v).content)
  front_grows all v left row room front =
      let one = length-append front.taken (v ∷ []) in
      let joined = length-append row (delimited (seen v).content) in
      record {
        taken = front.taken ++ v ∷ [];
        parts = front.parts ∙ sym (append_assoc front.taken (v ∷ []) left);
        text = ap (λ bytes. bytes ++ delimited (seen v).content) front.text ∙ sym (row_encoding-one front.taken v);
        fits = elim room [
          | inl empty ↦ let none = none_taken front.taken (sym front.text ∙ empty) in inl (omega arith)
          | inr few ↦ inr (omega arith)
        ];
      }

  pub piece_stops : (all : List X) (v : X) (left : List X) (row : List ℕ) → 0 < length row → most < length row + length (delimited (seen v).content) → IsFront all (v ∷ left) row → IsPiece seen most all (record { row = row; next = Some (seen v).key })
  piece_stops all v left row filled full front =
      let size = ap length (row_encoding-one front.taken v) ∙ length-append (row_encoding seen front.taken) (delimited (seen v).content) in
      let own = ap length front.text in
      record {
        taken = front.taken;
        left = v ∷ left;
        parts = front.parts;
        row = front.text;
        fits = front.fits;
        next = (refl, some_taken front.taken (omega arith), omega arith);
      }

  pub piece_ends : (all : List X) (row : List ℕ) → IsFront all [] row → IsPiece seen most all (record { row = row; next = None })
  piece_ends all row front =
      record { taken = front.taken; left = []; parts = front.parts; row = front.text; fits = front.fits; next = refl }

  -- ---- of a piece

  none_left : (taken left : List X) → GoesOn seen most taken left None → left ≡ []
  none_left taken [] goes = refl
  none_left taken (v ∷ rest) goes = let none = goes.0 in absurd cc

  -- what a piece leaves, where there is a next key
  pub record Leaves (taken left : List X) (key : K) : Type 0 where
    pub version : X
    pub rest : List X
    pub is : left ≡ version ∷ rest
    pub key_is : key ≡ (seen version).key
    pub some : 0 < length taken
    pub over : most < length (row_encoding seen (taken ++ version ∷ []))

  pub some_left : (taken left : List X) (key : K) → GoesOn seen most taken left (Some key) → Leaves taken left key
  some_left taken [] key goes = absurd cc
  some_left taken (v ∷ rest) key goes = record { version = v; rest = rest; is = refl; key_is = (let some = goes.0 in cc); some = goes.1; over = goes.2 }

  -- the last piece is the row of all
  pub piece_whole : (all : List X) (row : List ℕ) → IsPiece seen most all (record { row = row; next = None }) → row ≡ row_encoding seen all
  piece_whole all row piece =
      piece.row ∙ ap (row_encoding seen) (sym (append-nil piece.taken) ∙ ap (λ xs. piece.taken ++ xs) (sym (none_left piece.taken piece.left piece.next)) ∙ sym piece.parts)

  -- another is shorter than that
  pub piece_over : (all : List X) (row : List ℕ) (key : K) → IsPiece seen most all (record { row = row; next = Some key }) → most < length (row_encoding seen all)
  piece_over all row key piece =
      let leaves = some_left piece.taken piece.left key piece.next in
      let whole : row_encoding seen all ≡ row_encoding seen (piece.taken ++ leaves.version ∷ []) ++ row_encoding seen leaves.rest =
      ap (row_encoding seen) (piece.parts ∙ ap (λ xs. piece.taken ++ xs) leaves.is ∙ sym (append_assoc piece.taken (leaves.version ∷ []) leaves.rest))
      ∙ flat_map-append (λ w. delimited (seen w).content) (piece.taken ++ leaves.version ∷ []) leaves.rest in
      let size = ap length whole ∙ length-append (row_encoding seen (piece.taken ++ leaves.version ∷ [])) (row_encoding seen leaves.rest) in
      let over = leaves.over in
      omega arith

  -- behind it goes the row of what is there from the next key on
  module _ (cmp : K → K → Ordering) (keys : IsKeyOrder cmp) where
    next_on : (map : List X) (row : List ℕ) (key : K) → IsMap seen cmp map → (piece : IsPiece seen most map (record { row = row; next = Some key })) → (leaves : Leaves piece.taken piece.left key) → from_key seen cmp map key ≡ leaves.version ∷ leaves.rest
    next_on map row key order piece leaves =
        let cut : map ≡ piece.taken ++ leaves.version ∷ leaves.rest = piece.parts ∙ ap (λ xs. piece.taken ++ xs) leaves.is in
        ap (from_key seen cmp map) leaves.key_is
        ∙ ap (λ xs. from_key seen cmp xs (seen leaves.version).key) cut
        ∙ from_version seen cmp keys piece.taken leaves.rest leaves.version (subst (IsMap seen cmp) cut order)

    pub piece_rest : (map : List X) (row : List ℕ) (key : K) → IsMap seen cmp map → IsPiece seen most map (record { row = row; next = Some key }) → row ++ row_encoding seen (from_key seen cmp map key) ≡ row_encoding seen map
    piece_rest map row key order piece =
        let leaves = some_left piece.taken piece.left key piece.next in
        let cut : map ≡ piece.taken ++ leaves.version ∷ leaves.rest = piece.parts ∙ ap (λ xs. piece.taken ++ xs) leaves.is in
        ap (λ bytes. bytes ++ row_encoding seen (from_key seen cmp map key)) piece.row
        ∙ ap (λ xs. row_encoding seen piece.taken ++ row_encoding seen xs) (next_on map row key order piece leaves)
        ∙ sym (flat_map-append (λ w. delimited (seen w).content) piece.taken (leaves.version ∷ leaves.rest))
        ∙ ap (row_encoding seen) (sym cut)

    pub piece_shorter : (map : List X) (row : List ℕ) (key : K) → IsMap seen cmp map → IsPiece seen most map (record { row = row; next = Some key }) → length (from_key seen cmp map key) < length map
    piece_shorter map row key order piece =
        let leaves = some_left piece.taken piece.left key piece.next in
        let from = ap length (next_on map row key order piece leaves) in
        let whole = ap length piece.parts ∙ length-append piece.taken piece.left in
        let same = ap length leaves.is in
        let some = leaves.some in
        omega arith
