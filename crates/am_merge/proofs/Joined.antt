-- The items of blocks, around one of the blocks.
use Rattle.std.proofs.Common.{◌≡◌, ℕ, ◌+◌, ◌-◌, ◌<◌, ◌≤◌, suc, zero, List, [], ◌∷◌, ◌++◌, length, take, drop, get_or, set, refl, sym, ap, ◌∙◌, arith, append_assoc, length-append, length-set, add-one, Some, inl, inr}
use Rattle.std.specs.List.{insert, remove}
use Rattle.std.proofs.lemmas.List.{take-append-drop, set_split, take-set, drop-set-lt, get_or-set_same, length-take-le, length-drop, take_at, drop_at, get_or_append_left, get_or_past, get_or_read, nil_from_length, take_more_set, take_rest}
use Rattle.std.proofs.lemmas.List.Concat.{flat_map-append, get_or-flat_map}
use Rattle.std.proofs.lemmas.List.Edits.{insert-append_left, insert-append_right, remove-append_left, remove-append_right}
use Rattle.std.proofs.lemmas.List.Elements.{All-append, All-cons, All-take, All-drop}
use Rattle.std.specs.List.{slice_get}
use Rattle.std.proofs.lemmas.Bool.{cases_lt}
use Rattle.std.proofs.lemmas.Option.{slice_get_read}
use Rattle.am_merge.specs.Rows.{joined, AreSound}
use Rattle.am_merge.specs.Cuts.{cut_at}

less_again : (m n : ℕ) → m + n - m ≡ n
less_again m n = omega arith

module _ {T : Type 0} where
  -- the items before the block of this number, those of the block and those behind it
  pub joined_around : (blocks : List (List T)) (b : ℕ) → b < length blocks → joined blocks ≡ joined (take b blocks) ++ (get_or blocks b [] ++ joined (drop (suc b) blocks))
  joined_around [] b inside = absurd (omega arith)
  joined_around (x ∷ blocks) zero inside = refl
  joined_around (x ∷ blocks) (suc b) inside = ap (λ items. x ++ items) (joined_around blocks b (omega arith)) ∙ sym (append_assoc x (joined (take b blocks)) (get_or blocks b [] ++ joined (drop (suc b) blocks)))

  -- the same once the block is another
  pub joined_set : (blocks : List (List T)) (b : ℕ) (block : List T) → b < length blocks → joined (set blocks b block) ≡ joined (take b blocks) ++ (block ++ joined (drop (suc b) blocks))
  joined_set blocks b block inside = ap joined (set_split blocks b block inside) ∙ flat_map-append (λ items. items) (take b blocks) (block ∷ drop (suc b) blocks)

  -- how many items there are
  pub length_around : (blocks : List (List T)) (b : ℕ) → b < length blocks → length (joined blocks) ≡ length (joined (take b blocks)) + (length (get_or blocks b []) + length (joined (drop (suc b) blocks)))
  length_around blocks b inside =
      let split = ap length (joined_around blocks b inside) in
      let front = length-append (joined (take b blocks)) (get_or blocks b [] ++ joined (drop (suc b) blocks)) in
      let back = length-append (get_or blocks b []) (joined (drop (suc b) blocks)) in
      omega arith

  -- an insertion into a block inserts into the list
  pub joined_insert : (blocks : List (List T)) (b offset : ℕ) (item : T) → b < length blocks → offset ≤ length (get_or blocks b []) → joined (set blocks b (insert (get_or blocks b []) offset item)) ≡ insert (joined blocks) (length (joined (take b blocks)) + offset) item
  joined_insert blocks b offset item inside within =
      let front = joined (take b blocks) in
      let block = get_or blocks b [] in
      let back = joined (drop (suc b) blocks) in
      let behind : insert (front ++ (block ++ back)) (length front + offset) item ≡ front ++ insert (block ++ back) (length front + offset - length front) item = insert-append_right front (block ++ back) (length front) (length front + offset) item refl (omega arith) in
      let inside_block : insert (block ++ back) offset item ≡ insert block offset item ++ back = insert-append_left block back offset item within in
      joined_set blocks b (insert block offset item) inside
      ∙ sym (ap (λ items. insert items (length front + offset) item) (joined_around blocks b inside) ∙ behind ∙ ap (λ n. front ++ insert (block ++ back) n item) (less_again (length front) offset) ∙ ap (λ items. front ++ items) inside_block)

  -- a removal from a block removes from the list
  pub joined_remove : (blocks : List (List T)) (b offset : ℕ) → b < length blocks → offset < length (get_or blocks b []) → joined (set blocks b (remove (get_or blocks b []) offset)) ≡ remove (joined blocks) (length (joined (take b blocks)) + offset)
  joined_remove blocks b offset inside within =
      let front = joined (take b blocks) in
      let block = get_or blocks b [] in
      let back = joined (drop (suc b) blocks) in
      let behind : remove (front ++ (block ++ back)) (length front + offset) ≡ front ++ remove (block ++ back) (length front + offset - length front) = remove-append_right front (block ++ back) (length front) (length front + offset) refl (omega arith) in
      let inside_block : remove (block ++ back) offset ≡ remove block offset ++ back = remove-append_left block back offset within in
      joined_set blocks b (remove block offset) inside
      ∙ sym (ap (λ items. remove items (length front + offset)) (joined_around blocks b inside) ∙ behind ∙ ap (λ n. front ++ remove (block ++ back) n) (less_again (length front) offset) ∙ ap (λ items. front ++ items) inside_block)

  -- a cut moves no item
  pub joined_cut : (blocks : List (List T)) (b offset : ℕ) → b < length blocks → joined (cut_at blocks b offset) ≡ joined blocks
  joined_cut blocks b offset inside =
      let block = get_or blocks b [] in
      let back = joined (drop (suc b) blocks) in
      flat_map-append (λ items. items) (take b blocks) (take offset block ∷ drop offset block ∷ drop (suc b) blocks)
      ∙ ap (λ items. joined (take b blocks) ++ items) (sym (append_assoc (take offset block) (drop offset block) back) ∙ ap (λ items. items ++ back) (take-append-drop offset block))
      ∙ sym (joined_around blocks b inside)

  -- a block without items can go
  pub joined_drop : (blocks : List (List T)) (b : ℕ) → b < length blocks → get_or blocks b [] ≡ [] → joined (remove blocks b) ≡ joined blocks
  joined_drop blocks b inside none =
      flat_map-append (λ items. items) (take b blocks) (drop (suc b) blocks)
      ∙ sym (joined_around blocks b inside ∙ ap (λ block. joined (take b blocks) ++ (block ++ joined (drop (suc b) blocks))) none)

  -- the item of an offset in a block is that of its place in the list
  pub item_at : (blocks : List (List T)) (b offset : ℕ) (d : T) → b < length blocks → offset < length (get_or blocks b []) → get_or (joined blocks) (length (joined (take b blocks)) + offset) d ≡ get_or (get_or blocks b []) offset d
  item_at blocks b offset d inside within = get_or-flat_map (λ items. items) blocks b offset [] d inside within

  -- an offset within a block is a place within the list
  pub place_inside : (blocks : List (List T)) (b offset : ℕ) → b < length blocks → offset < length (get_or blocks b []) → length (joined (take b blocks)) + offset < length (joined blocks)
  place_inside blocks b offset inside within = let sizes = length_around blocks b inside in omega arith

  -- a full block cut in two leaves sound blocks
  pub sound_cut : (blocks : List (List T)) (b offset : ℕ) (block : List T) → b < length blocks → AreSound blocks → length block ≡ 128 → 0 < offset → offset < 128 → AreSound (cut_at (set blocks b block) b offset)
  sound_cut blocks b offset block inside sound full low high =
      let P = λ (items : List T). (0 < length items) × (length items < 128) in
      let lower : length (take offset block) ≡ offset = length-take-le offset block (omega arith) in
      let upper : length (drop offset block) ≡ length block - offset = length-drop offset block in
      rw (take-set blocks b block, drop-set-lt (suc b) blocks b block (omega arith), get_or-set_same blocks b block [] inside)
      (All-append P (take b blocks) (take offset block ∷ drop offset block ∷ drop (suc b) blocks)
      (All-take P b blocks sound)
      (All-cons P (take offset block) (drop offset block ∷ drop (suc b) blocks)
      (omega arith, omega arith)
      (All-cons P (drop offset block) (drop (suc b) blocks) (omega arith, omega arith) (All-drop P (suc b) blocks sound))))

  -- the items before a place and those from it on
  pub joined_split : (blocks : List (List T)) (b offset : ℕ) → b < length blocks → joined blocks ≡ (joined (take b blocks) ++ take offset (get_or blocks b [])) ++ (drop offset (get_or blocks b []) ++ joined (drop (suc b) blocks))
  joined_split blocks b offset inside =
      let front = joined (take b blocks) in
      let block = get_or blocks b [] in
      let back = joined (drop (suc b) blocks) in
      joined_around blocks b inside
      ∙ ap (λ items. front ++ items) (ap (λ items. items ++ back) (sym (take-append-drop offset block)) ∙ append_assoc (take offset block) (drop offset block) back)
      ∙ sym (append_assoc front (take offset block) (drop offset block ++ back))

  length_front : (blocks : List (List T)) (b offset : ℕ) → offset ≤ length (get_or blocks b []) → length (joined (take b blocks) ++ take offset (get_or blocks b [])) ≡ length (joined (take b blocks)) + offset
  length_front blocks b offset within =
      let sum = length-append (joined (take b blocks)) (take offset (get_or blocks b [])) in
      let part : length (take offset (get_or blocks b [])) ≡ offset = length-take-le offset (get_or blocks b []) within in
      omega arith

  pub take_place : (blocks : List (List T)) (b offset : ℕ) → b < length blocks → offset ≤ length (get_or blocks b []) → take (length (joined (take b blocks)) + offset) (joined blocks) ≡ joined (take b blocks) ++ take offset (get_or blocks b [])
  take_place blocks b offset inside within =
      ap (λ items. take (length (joined (take b blocks)) + offset) items) (joined_split blocks b offset inside)
      ∙ take_at (joined (take b blocks) ++ take offset (get_or blocks b [])) (drop offset (get_or blocks b []) ++ joined (drop (suc b) blocks)) (length (joined (take b blocks)) + offset) (length_front blocks b offset within)

  pub drop_place : (blocks : List (List T)) (b offset : ℕ) → b < length blocks → offset ≤ length (get_or blocks b []) → drop (length (joined (take b blocks)) + offset) (joined blocks) ≡ drop offset (get_or blocks b []) ++ joined (drop (suc b) blocks)
  drop_place blocks b offset inside within =
      ap (λ items. drop (length (joined (take b blocks)) + offset) items) (joined_split blocks b offset inside)
      ∙ drop_at (joined (take b blocks) ++ take offset (get_or blocks b [])) (drop offset (get_or blocks b []) ++ joined (drop (suc b) blocks)) (length (joined (take b blocks)) + offset) (length_front blocks b offset within)

  -- the first item is that of the first block
  pub first_of : (blocks : List (List T)) (d : T) → AreSound blocks → 0 < length (joined blocks) → (0 < length blocks) × (get_or (joined blocks) 0 d ≡ get_or (get_or blocks 0 []) 0 d)
  first_of [] d sound some = absurd (omega arith)
  first_of (block ∷ blocks) d sound some =
      let begins : 0 < length block = (sound 0 [] (omega arith)).0 in
      (omega arith, get_or_append_left block (joined blocks) d 0 begins)

  -- a block with an offset in it is among the blocks
  pub block_inside : (blocks : List (List T)) (b offset : ℕ) → offset < length (get_or blocks b []) → b < length blocks
  block_inside blocks b offset some =
      elim (cases_lt b (length blocks)) [ inl less ↦ less | inr past ↦ let none = ap length (get_or_past blocks b [] past) in absurd (omega arith) ]

  -- a block that was read
  pub block_read : (blocks : List (List T)) (b : ℕ) (block : List T) → b < length blocks → block ≡ get_or blocks b block → block ≡ get_or blocks b []
  block_read blocks b block inside read = get_or_read blocks b block inside read []

  -- an item that was read of a block
  pub item_read : (blocks : List (List T)) (b offset : ℕ) (block items : List T) (item : T) → offset < length (get_or blocks b []) → block ≡ get_or blocks b block → items ≡ block → item ≡ get_or items offset item → slice_get (joined blocks) (length (joined (take b blocks)) + offset) ≡ Some item
  item_read blocks b offset block items item some read same got =
      let inside : b < length blocks = block_inside blocks b offset some in
      let whole : items ≡ get_or blocks b [] = same ∙ block_read blocks b block inside read in
      slice_get_read (joined blocks) (length (joined blocks)) (length (joined (take b blocks)) + offset) item refl (place_inside blocks b offset inside some)
      (got ∙ ap (λ xs. get_or xs offset item) whole ∙ sym (item_at blocks b offset item inside some))

  -- the items of blocks once an item came into one
  pub inserted : (blocks : List (List T)) (b offset : ℕ) (block new : List T) (item : T) → b < length blocks → offset ≤ length (get_or blocks b []) → block ≡ get_or blocks b block → new ≡ insert block offset item → joined (set blocks b new) ≡ insert (joined blocks) (length (joined (take b blocks)) + offset) item
  inserted blocks b offset block new item inside within read is =
      ap (λ xs. joined (set blocks b xs)) (is ∙ ap (λ xs. insert xs offset item) (block_read blocks b block inside read))
      ∙ joined_insert blocks b offset item inside within

  -- the items of blocks once an item left one
  pub removed : (blocks : List (List T)) (b offset : ℕ) (block new : List T) → offset < length (get_or blocks b []) → block ≡ get_or blocks b block → new ≡ remove block offset → joined (set blocks b new) ≡ remove (joined blocks) (length (joined (take b blocks)) + offset)
  removed blocks b offset block new some read is =
      let inside : b < length blocks = block_inside blocks b offset some in
      ap (λ xs. joined (set blocks b xs)) (is ∙ ap (λ xs. remove xs offset) (block_read blocks b block inside read))
      ∙ joined_remove blocks b offset inside some

  -- the same once the block has no item and is gone
  pub removed_all : (blocks after : List (List T)) (b offset : ℕ) (block new : List T) → offset < length (get_or blocks b []) → block ≡ get_or blocks b block → new ≡ remove block offset → length new ≡ 0 → after ≡ remove (set blocks b new) b → joined after ≡ remove (joined blocks) (length (joined (take b blocks)) + offset)
  removed_all blocks after b offset block new some read is none gone =
      let inside : b < length blocks = block_inside blocks b offset some in
      let size : length (set blocks b new) ≡ length blocks = length-set blocks b new in
      ap joined gone
      ∙ joined_drop (set blocks b new) b (omega arith) (get_or-set_same blocks b new [] inside ∙ nil_from_length new none)
      ∙ removed blocks b offset block new some read is

  -- a cut, as it is made
  pub cut_made : (blocks : List (List T)) (b offset : ℕ) (block lower upper : List T) → b < length blocks → block ≡ get_or blocks b block → lower ≡ take offset block → upper ≡ drop offset block → insert (set blocks b lower) (b + 1) upper ≡ cut_at blocks b offset
  cut_made blocks b offset block lower upper inside read low high =
      let whole = block_read blocks b block inside read in
      let next : b + 1 ≡ suc b = add-one b in
      let front = take_more_set blocks b lower inside in
      let back : drop (b + 1) (set blocks b lower) ≡ drop (suc b) blocks = ap (λ n. drop n (set blocks b lower)) next ∙ drop-set-lt (suc b) blocks b lower (omega arith) in
      ap (λ xs. xs ++ upper ∷ drop (b + 1) (set blocks b lower)) front
      ∙ append_assoc (take b blocks) (lower ∷ []) (upper ∷ drop (b + 1) (set blocks b lower))
      ∙ ap (λ xs. take b blocks ++ lower ∷ upper ∷ xs) back
      ∙ ap (λ xs. take b blocks ++ xs ∷ upper ∷ drop (suc b) blocks) (low ∙ ap (take offset) whole)
      ∙ ap (λ xs. take b blocks ++ take offset (get_or blocks b []) ∷ xs ∷ drop (suc b) blocks) (high ∙ ap (drop offset) whole)

  -- what is left behind a place, as it is read
  pub rest_read : (blocks later : List (List T)) (b offset : ℕ) (block items : List T) → b < length blocks → offset ≤ length (get_or blocks b []) → block ≡ get_or blocks b block → items ≡ block → later ≡ blocks → take (length items - offset) (drop offset items) ++ joined (take (length later - (b + 1)) (drop (b + 1) later)) ≡ drop (length (joined (take b blocks)) + offset) (joined blocks)
  rest_read blocks later b offset block items inside within read same all =
      let whole : items ≡ get_or blocks b [] = same ∙ block_read blocks b block inside read in
      let front : take (length items - offset) (drop offset items) ≡ drop offset (get_or blocks b []) = take_rest items offset ∙ ap (drop offset) whole in
      let back : take (length later - (b + 1)) (drop (b + 1) later) ≡ drop (suc b) blocks = take_rest later (b + 1) ∙ ap (drop (b + 1)) all ∙ ap (λ n. drop n blocks) (add-one b) in
      ap (λ xs. xs ++ joined (take (length later - (b + 1)) (drop (b + 1) later))) front
      ∙ ap (λ xs. drop offset (get_or blocks b []) ++ joined xs) back
      ∙ sym (drop_place blocks b offset inside within)
