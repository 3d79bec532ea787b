-- The row of a map that doesn't change while it is written in pieces.
use Rattle.std.proofs.Common.{◌≡◌, ℕ, List, [], ◌∷◌, ◌++◌, Option, refl, sym, ◌∙◌, ap, subst, append-nil, append_assoc}
use Rattle.std.specs.Prelude.{All}
use Rattle.std.specs.List.{AllByRecursion}
use Rattle.std.proofs.lemmas.Grind.{flat_map-append}
use Rattle.std.proofs.lemmas.List.Elements.{recursion_from_All}
use Rattle.std.specs.declared.cmp.Ordering.{Ordering}
use Rattle.am_version_order.specs.Versions.{Version}
use Rattle.am_merge.specs.Maps.{IsMap, from_key}
use Rattle.am_merge.proofs.Keys.{IsKeyOrder}
use Rattle.am_merge.proofs.Fronts.{from_version}
use Rattle.am_wire.specs.Writing.{delimited}
use Rattle.am_snapshot.specs.Encodings.{row_encoding}
use Rattle.am_snapshot.specs.Pieces.{IsPiece, GoesOn}
use Rattle.am_store.specs.Rewrites.{Place, End, place_behind, left_at, stretch, IsWritten}

module _ {K X : Type 0} (seen : X → Version K) (cmp : K → K → Ordering) (keys : IsKeyOrder cmp) (map : List X) (order : IsMap seen cmp map) where
  -- the row is that of the versions before a place
  record IsCutAt (row : List ℕ) (place : Place K) : Type 0 where
    front : List X
    rest : List X
    parts : map ≡ front ++ rest
    text : row ≡ row_encoding seen front
    behind : left_at seen cmp map place ≡ rest

  -- what a piece leaves stands at the place behind it
  left_behind : (front taken left : List X) (next : Option K) → map ≡ front ++ left → GoesOn seen stretch taken left next → left_at seen cmp map (place_behind next) ≡ left
  left_behind front taken [] next parts goes = ap (λ (n : Option K). left_at seen cmp map (place_behind n)) goes
  left_behind front taken (v ∷ rest) next parts goes =
      ap (λ (n : Option K). left_at seen cmp map (place_behind n)) goes.0
      ∙ ap (λ (xs : List X). from_key seen cmp xs (seen v).key) parts
      ∙ from_version seen cmp keys front rest v (subst (IsMap seen cmp) parts order)

  cut : (maps : List (List X)) (row : List ℕ) (place : Place K) → AllByRecursion (λ (m : List X). m ≡ map) maps → IsWritten seen cmp maps row place → IsCutAt row place
  cut [] row place same written = record {
    front = [];
    rest = map;
    parts = refl;
    text = written.0;
    behind = ap (left_at seen cmp map) written.1;
  }
  cut (m ∷ earlier) row place same (before, from, piece, written, is, whole, at) =
      let was = cut earlier before from same.1 written in
      let of_map : IsPiece seen stretch (left_at seen cmp map from) piece = subst (λ (n : List X). IsPiece seen stretch (left_at seen cmp n from) piece) same.0 is in
      let parts : map ≡ (was.front ++ of_map.taken) ++ of_map.left =
      was.parts ∙ ap (λ (xs : List X). was.front ++ xs) (sym was.behind ∙ of_map.parts) ∙ sym (append_assoc was.front of_map.taken of_map.left) in
      record {
        front = was.front ++ of_map.taken;
        rest = of_map.left;
        parts = parts;
        text = whole ∙ ap (λ (l : List ℕ). l ++ piece.row) was.text ∙ ap (λ (l : List ℕ). row_encoding seen was.front ++ l) of_map.row
            ∙ sym (flat_map-append (λ v. delimited (seen v).content) was.front of_map.taken);
        behind = ap (left_at seen cmp map) at ∙ left_behind (was.front ++ of_map.taken) of_map.taken of_map.left piece.next parts of_map.next;
      }

  whole_row : (row : List ℕ) → IsCutAt row End → row ≡ row_encoding seen map
  whole_row row is = is.text ∙ ap (row_encoding seen) (sym (append-nil is.front) ∙ ap (λ (xs : List X). is.front ++ xs) is.behind ∙ sym is.parts)

pub one_row : {K X : Type 0} (seen : X → Version K) (cmp : K → K → Ordering) → IsKeyOrder cmp → (map : List X) (maps : List (List X)) (row : List ℕ)
    → IsMap seen cmp map → All (λ (other : List X). other ≡ map) maps → IsWritten seen cmp maps row End → row ≡ row_encoding seen map
one_row seen cmp keys map maps row order same written =
    whole_row seen cmp keys map order row (cut seen cmp keys map order maps row End (recursion_from_All (λ m. m ≡ map) maps same) written)
