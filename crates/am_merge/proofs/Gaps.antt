-- A place between two items, of which one is before what is looked for and the other behind it.
use Rattle.std.proofs.Common.{◌≡◌, ℕ, ◌+◌, ◌-◌, ◌<◌, ◌≤◌, List, [], ◌∷◌, length, drop, get_or, inl, inr, sym, ap, ◌∙◌, arith}
use Rattle.std.specs.List.{AllWithin}
use Rattle.std.specs.declared.cmp.Ordering.{Ordering}
use Rattle.std.specs.declared.cmp.Ordering.TheVariants.{Less, Greater}
use Rattle.std.proofs.lemmas.Bool.{cases_lt}
use Rattle.std.proofs.lemmas.List.{get_or-drop, length-drop}
use Rattle.am_merge.specs.declared.blocks.cursor.Cursor.{Cursor}
use Rattle.am_merge.specs.Rows.{Rows, entries}
use Rattle.am_merge.specs.Cursors.{IsWithin, place}
use Rattle.am_merge.specs.Searches.{IsRising, IsMissing}
use Rattle.am_merge.proofs.Risings.{all_take, all_drop, less_or_greater}
use Rattle.am_merge.proofs.Places.{place_within}

module _ {T : Type 0} where
  -- what a rest begins with stands at its place
  pub starts : (xs : List T) (i : ℕ) (x : T) (rest : List T) (d : T) → drop i xs ≡ x ∷ rest → get_or xs i d ≡ x
  starts xs i x rest d is =
      let same : i + 0 ≡ i = omega arith in
      ap (λ n. get_or xs n d) (sym same) ∙ sym (get_or-drop i xs 0 d) ∙ ap (λ ys. get_or ys 0 d) is

  -- where no rest is left the list has ended
  pub no_more : (xs : List T) (i : ℕ) → drop i xs ≡ [] → length xs ≤ i
  no_more xs i none = let left = length-drop i xs in let size = ap length none in omega arith

module _ {T : Type 0} (order : T → Ordering) where
  -- where the item before a place is before what is looked for, all there are
  below : (xs : List T) (i : ℕ) → IsRising order xs → i ≤ length xs → ((d : T) → 0 < i → order (get_or xs (i - 1) d) ≡ Less) → AllWithin (λ x. order x ≡ Less) xs 0 i
  below xs i rising within last k d from less =
      elim (cases_lt k (i - 1)) [
        | inl before ↦ elim (rising k (i - 1) d before (omega arith)) [
          | inl low ↦ low
          | inr high ↦ less_or_greater order (last d (omega arith)) high
        ]
        | inr not_before ↦ let same : k ≡ i - 1 = omega arith in rw same (last d (omega arith))
      ]

  -- where the item at a place is behind what is looked for, all from there on are
  above : (xs : List T) (i : ℕ) → IsRising order xs → ((d : T) → i < length xs → order (get_or xs i d) ≡ Greater) → AllWithin (λ x. order x ≡ Greater) xs i (length xs)
  above xs i rising first k d from less =
      elim (cases_lt i k) [
        | inl behind ↦ elim (rising i k d behind less) [
          | inl low ↦ less_or_greater order low (first d (omega arith))
          | inr high ↦ high
        ]
        | inr not_behind ↦ let same : k ≡ i = omega arith in rw same (first d (omega arith))
      ]

  -- what is looked for is missing where it would stand between the items around a place
  pub between : (rows : Rows T) (cursor : Cursor) → IsRising order (entries rows) → IsWithin rows cursor
      → ((d : T) → 0 < place rows cursor → order (get_or (entries rows) (place rows cursor - 1) d) ≡ Less)
      → ((d : T) → place rows cursor < length (entries rows) → order (get_or (entries rows) (place rows cursor) d) ≡ Greater)
      → IsMissing order rows cursor
  between rows cursor rising within last first =
      let inside = place_within rows cursor within in
      record {
        within = within;
        before = all_take (λ x. order x ≡ Less) (entries rows) (place rows cursor) inside (below (entries rows) (place rows cursor) rising inside last);
        behind = all_drop (λ x. order x ≡ Greater) (entries rows) (place rows cursor) (above (entries rows) (place rows cursor) rising first);
      }
