-- The items of a list at cursors, and those that searches find.
use Rattle.std.proofs.Common.{◌≡◌, ◌≢◌, ℕ, ◌+◌, ◌-◌, ◌<◌, ◌≤◌, List, [], length, take, get_or, inl, inr, sym, ap, ◌∙◌, arith}
use Rattle.std.specs.List.{AllPairs, insert}
use Rattle.std.specs.declared.cmp.Ordering.{Ordering}
use Rattle.std.specs.declared.cmp.Ordering.TheVariants.{Less, Equal, Greater}
use Rattle.std.proofs.lemmas.Bool.{cases_lt}
use Rattle.std.proofs.lemmas.List.{take_all, get_or_past, get_or-take, get_or-drop, length-take-le, length-drop}
use Rattle.std.proofs.lemmas.List.Edits.{get_or-insert_below, get_or-insert_at, get_or-insert_above, length-insert}
use Rattle.am_merge.specs.declared.blocks.cursor.Cursor.{Cursor}
use Rattle.am_merge.specs.Rows.{Rows, entries, joined}
use Rattle.am_merge.specs.Cursors.{IsItem, IsWithin, place}
use Rattle.am_merge.specs.Searches.{IsMissing}
use Rattle.am_merge.proofs.Joined.{block_inside, place_inside, length_around}

module _ {T : Type 0} where
  -- the place of an item is one of the list
  pub place_of_item : (rows : Rows T) (cursor : Cursor) → IsItem rows cursor → place rows cursor < length (entries rows)
  place_of_item rows cursor item = place_inside rows.blocks cursor.block cursor.offset (block_inside rows.blocks cursor.block cursor.offset item.offset) item.offset

  -- the place of an item is within the blocks
  pub item_is_within : (rows : Rows T) (cursor : Cursor) → IsItem rows cursor → IsWithin rows cursor
  item_is_within rows cursor item =
      let inside = block_inside rows.blocks cursor.block cursor.offset item.offset in
      let offset = item.offset in
      record { block = omega arith; offset = omega arith }

  -- a place within the blocks is within the list
  pub place_within : (rows : Rows T) (cursor : Cursor) → IsWithin rows cursor → place rows cursor ≤ length (entries rows)
  place_within rows cursor within =
      elim (cases_lt cursor.block (length rows.blocks)) [
        | inl inside ↦ let sizes = length_around rows.blocks cursor.block inside in let offset = within.offset in omega arith
        | inr past ↦
            let whole = ap (λ blocks. length (joined blocks)) (take_all cursor.block rows.blocks past) in
            let none = ap length (get_or_past rows.blocks cursor.block [] past) in
            let offset = within.offset in
            omega arith
      ]

  get_insert_above : (items : List T) (n : ℕ) (item d : T) (k : ℕ) → n ≤ length items → n < k → get_or (insert items n item) k d ≡ get_or items (k - 1) d
  get_insert_above items n item d k within above =
      let next : k ≡ k - 1 + 1 = omega arith in
      ap (λ m. get_or (insert items n item) m d) next ∙ get_or-insert_above items n item d (k - 1) (omega arith) within

  -- a relation of each item and each later one stays when an item comes in that has it to those around it
  pub all_pairs_insert : (R : T → T → Type 0) (items : List T) (n : ℕ) (item : T) → n ≤ length items → AllPairs R items → ((k : ℕ) (d : T) → k < n → R (get_or items k d) item) → ((k : ℕ) (d : T) → n ≤ k → k < length items → R item (get_or items k d)) → AllPairs R (insert items n item)
  all_pairs_insert R items n item within pairs before behind i j d less inside =
      let size = length-insert items n item within in
      elim (cases_lt j n) [
        | inl low ↦ rw (get_or-insert_below items n item d i (omega arith) within, get_or-insert_below items n item d j low within) (pairs i j d less (omega arith))
        | inr not_low ↦ elim (cases_lt n j) [
          | inr at ↦
              let same : j ≡ n = omega arith in
              rw (same, get_or-insert_below items n item d i (omega arith) within, get_or-insert_at items n item d within) (before i d (omega arith))
          | inl high ↦
              rw (get_insert_above items n item d j within high)
              (elim (cases_lt i n) [
                | inl low ↦ rw (get_or-insert_below items n item d i low within) (pairs i (j - 1) d (omega arith) (omega arith))
                | inr not_low ↦ elim (cases_lt n i) [
                  | inr at ↦ let same : i ≡ n = omega arith in rw (same, get_or-insert_at items n item d within) (behind (j - 1) d (omega arith) (omega arith))
                  | inl above ↦ rw (get_insert_above items n item d i within above) (pairs (i - 1) (j - 1) d (omega arith) (omega arith))
                ]
              ])
        ]
      ]

module _ {T : Type 0} (order : T → Ordering) where
  less_apart : (x : T) → order x ≡ Less → order x ≢ Equal
  less_apart x less equal = cc

  -- what stands before the place of what is missing, and what stands from there on
  pub missing_before : (rows : Rows T) (cursor : Cursor) → IsMissing order rows cursor → (k : ℕ) (d : T) → k < place rows cursor → order (get_or (entries rows) k d) ≡ Less
  missing_before rows cursor missing k d less =
      let within = place_within rows cursor missing.within in
      let size : length (take (place rows cursor) (entries rows)) ≡ place rows cursor = length-take-le (place rows cursor) (entries rows) within in
      rw (← get_or-take (place rows cursor) (entries rows) k d less) (missing.before k d (omega arith))

  pub missing_behind : (rows : Rows T) (cursor : Cursor) → IsMissing order rows cursor → (k : ℕ) (d : T) → place rows cursor ≤ k → k < length (entries rows) → order (get_or (entries rows) k d) ≡ Greater
  missing_behind rows cursor missing k d from inside =
      let size = length-drop (place rows cursor) (entries rows) in
      let there : place rows cursor + (k - place rows cursor) ≡ k = omega arith in
      let found = missing.behind (k - place rows cursor) d (omega arith) in
      ap (λ m. order (get_or (entries rows) m d)) (sym there) ∙ ap order (sym (get_or-drop (place rows cursor) (entries rows) (k - place rows cursor) d)) ∙ found
