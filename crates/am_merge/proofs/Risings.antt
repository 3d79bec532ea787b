-- The conclusions that a search draws from the order of the items.
use Rattle.std.proofs.Common.{◌≡◌, ◌≢◌, ◌⊎◌, ℕ, ◌+◌, ◌<◌, ◌≤◌, suc, zero, List, [], ◌++◌, length, take, drop, get_or, inl, inr, ap, arith, length-append, Result, Ok, Err, IfOk, IfErr}
use Rattle.std.specs.List.{All, AllWithin, HoldsAt}
use Rattle.std.specs.List.Sorted.{IsNonDecreasingBy, IsSearchInRange, IsBinarySearchResult}
use Rattle.std.specs.Ordering.{ordering_index}
use Rattle.std.specs.declared.cmp.Ordering.{Ordering}
use Rattle.std.specs.declared.cmp.Ordering.TheVariants.{Less, Equal, Greater}
use Rattle.std.proofs.lemmas.Bool.{cases_lt}
use Rattle.std.proofs.lemmas.List.{get_or_append_left, get_or-append-add, get_or-take, get_or-drop, length-take-le, length-drop}
use Rattle.std.proofs.lemmas.List.Elements.{All-append, All-drop}
use Rattle.am_merge.specs.Rows.{joined, AreSound}
use Rattle.am_merge.specs.Searches.{IsRising}
use Rattle.am_merge.proofs.Joined.{joined_around, take_place, drop_place, first_of, item_at}

-- the front of a list, and the rest, by places
pub all_take : {X : Type 0} (P : X → Type 0) (xs : List X) (i : ℕ) → i ≤ length xs → AllWithin P xs 0 i → All P (take i xs)
all_take P xs i within all k d less =
    let short : length (take i xs) ≡ i = length-take-le i xs within in
    let below : k < i = omega arith in
    rw (get_or-take i xs k d below) (all k d (omega arith) below)

pub all_drop : {X : Type 0} (P : X → Type 0) (xs : List X) (i : ℕ) → AllWithin P xs i (length xs) → All P (drop i xs)
all_drop P xs i all k d less =
    let rest = length-drop i xs in
    rw (get_or-drop i xs k d) (all (i + k) d (omega arith) (omega arith))

index_small : (o : Ordering) → ordering_index o ≤ 2
index_small Less = omega arith
index_small Equal = omega arith
index_small Greater = omega arith

module _ {T : Type 0} (order : T → Ordering) where
  -- the front and the back of what rises rise too
  pub rising_left : (xs ys : List T) → IsRising order (xs ++ ys) → IsRising order xs
  rising_left xs ys rising i j d less inside =
      let size = length-append xs ys in
      rw (← get_or_append_left xs ys d i (omega arith), ← get_or_append_left xs ys d j inside) (rising i j d less (omega arith))

  pub rising_right : (xs ys : List T) → IsRising order (xs ++ ys) → IsRising order ys
  rising_right xs ys rising i j d less inside =
      let size = length-append xs ys in
      rw (← get_or-append-add xs ys i d, ← get_or-append-add xs ys j d) (rising (length xs + i) (length xs + j) d (omega arith) (omega arith))

  rising_across : (xs ys : List T) → IsRising order (xs ++ ys) → (i j : ℕ) (d : T) → i < length xs → j < length ys → (order (get_or xs i d) ≡ Less) ⊎ (order (get_or ys j d) ≡ Greater)
  rising_across xs ys rising i j d front back =
      let size = length-append xs ys in
      rw (← get_or_append_left xs ys d i front, ← get_or-append-add xs ys j d) (rising i (length xs + j) d (omega arith) (omega arith))

  -- all that stands before an item that isn't behind what is looked for is before it
  pub all_before : (xs ys : List T) → IsRising order (xs ++ ys) → 0 < length ys → ((d : T) → order (get_or ys 0 d) ≢ Greater) → All (λ x. order x ≡ Less) xs
  all_before xs ys rising some first k d inside =
      elim (rising_across xs ys rising k 0 d inside some) [ inl less ↦ less | inr greater ↦ absurd (first d greater) ]

  -- an item isn't both
  pub less_or_greater : {o : Ordering} {P : Type 0} → o ≡ Less → o ≡ Greater → P
  less_or_greater less greater = cc

  -- where the first item is behind what is looked for, all are
  pub all_behind : (xs : List T) → IsRising order xs → ((d : T) → 0 < length xs → order (get_or xs 0 d) ≡ Greater) → All (λ x. order x ≡ Greater) xs
  all_behind xs rising first zero d inside = first d inside
  all_behind xs rising first (suc k) d inside =
      elim (rising 0 (suc k) d (omega arith) inside) [ inl less ↦ less_or_greater less (first d (omega arith)) | inr greater ↦ greater ]

  -- a binary search may be made where the items rise
  pub rising_indexes : (xs : List T) → IsRising order xs → IsNonDecreasingBy (λ x. ordering_index (order x)) xs
  rising_indexes xs rising i j d upto inside =
      elim (cases_lt i j) [
        | inl less ↦ elim (rising i j d less inside) [
          | inl before ↦ let low = ap ordering_index before in omega arith
          | inr behind ↦ let high = ap ordering_index behind in let small = index_small (order (get_or xs i d)) in omega arith
        ]
        | inr not_less ↦ let same : i ≡ j = omega arith in rw same (omega arith)
      ]

  -- the items of blocks of which the first begins behind what is looked for
  pub joined_behind : (blocks : List (List T)) → AreSound blocks → IsRising order (joined blocks) → ((d : T) → 0 < length blocks → order (get_or (get_or blocks 0 []) 0 d) ≡ Greater) → All (λ x. order x ≡ Greater) (joined blocks)
  joined_behind blocks sound rising first =
      all_behind (joined blocks) rising (λ d some. let begins = first_of blocks d sound some in rw begins.1 (first d begins.0))

  -- an item is missing where its block and the next one say so
  pub missing_in : (blocks : List (List T)) (b count offset : ℕ) → AreSound blocks → IsRising order (joined blocks) → suc b ≡ count → count ≤ length blocks → offset ≤ length (get_or blocks b [])
      → ((d : T) → order (get_or (get_or blocks b []) 0 d) ≢ Greater)
      → ((d : T) → count < length blocks → order (get_or (get_or blocks count []) 0 d) ≡ Greater)
      → All (λ x. order x ≡ Less) (take offset (get_or blocks b []))
      → All (λ x. order x ≡ Greater) (drop offset (get_or blocks b []))
      → All (λ x. order x ≡ Less) (take (length (joined (take b blocks)) + offset) (joined blocks)) × All (λ x. order x ≡ Greater) (drop (length (joined (take b blocks)) + offset) (joined blocks))
  missing_in blocks b count offset sound rising next most within first behind lower upper =
      let inside : b < length blocks = omega arith in
      let front = joined (take b blocks) in
      let block = get_or blocks b [] in
      let back = joined (drop (suc b) blocks) in
      let some : 0 < length block = (sound b [] inside).0 in
      let whole : IsRising order (front ++ (block ++ back)) = rw (← joined_around blocks b inside) rising in
      let size = length-append block back in
      let begins : (d : T) → order (get_or (block ++ back) 0 d) ≢ Greater = λ d. rw (get_or_append_left block back d 0 some) (first d) in
      let before = all_before front (block ++ back) whole (omega arith) begins in
      let rest : IsRising order back = rising_right block back (rising_right front (block ++ back) whole) in
      let follows : (d : T) → 0 < length (drop (suc b) blocks) → order (get_or (get_or (drop (suc b) blocks) 0 []) 0 d) ≡ Greater =
      λ d more.
      let left = length-drop (suc b) blocks in
      let same : suc b + 0 ≡ count = omega arith in
      rw (get_or-drop (suc b) blocks 0 [], same) (behind d (omega arith))
      in
      let after = joined_behind (drop (suc b) blocks) (All-drop (λ (items : List T). (0 < length items) × (length items < 128)) (suc b) blocks sound) rest follows in (
        rw (take_place blocks b offset inside within) (All-append (λ x. order x ≡ Less) front (take offset block) before lower),
        rw (drop_place blocks b offset inside within) (All-append (λ x. order x ≡ Greater) (drop offset block) back upper after),
      )

  -- an item that is found in a block is found in the list
  pub found_in : (blocks : List (List T)) (b offset : ℕ) → b < length blocks → offset < length (get_or blocks b []) → HoldsAt (λ x. order x ≡ Equal) (get_or blocks b []) offset → HoldsAt (λ x. order x ≡ Equal) (joined blocks) (length (joined (take b blocks)) + offset)
  found_in blocks b offset inside within equal d = rw (item_at blocks b offset d inside within) (equal d)

  -- a block of what rises rises
  pub rising_block : (blocks : List (List T)) (b : ℕ) → b < length blocks → IsRising order (joined blocks) → IsRising order (get_or blocks b [])
  rising_block blocks b inside rising =
      let front = joined (take b blocks) in
      let block = get_or blocks b [] in
      let back = joined (drop (suc b) blocks) in
      rising_left block back (rising_right front (block ++ back) (rw (← joined_around blocks b inside) rising))

  -- what a binary search of a block answers
  pub record Searched (xs : List T) (r : Result ℕ ℕ) : Type 0 where
    pub inside : IfOk r (λ i. i < length xs)
    pub equal : IfOk r (HoldsAt (λ x. order x ≡ Equal) xs)
    pub within : IfErr r (λ i. i ≤ length xs)
    pub before : IfErr r (λ i. All (λ x. order x ≡ Less) (take i xs))
    pub behind : IfErr r (λ i. All (λ x. order x ≡ Greater) (drop i xs))

  pub searched : (xs : List T) (r : Result ℕ ℕ) → IsRising order xs → IsSearchInRange r (length xs) → IsBinarySearchResult order xs r → Searched xs r
  searched xs (Ok i) rising inside equal = record { inside = inside; equal = equal; within = tt; before = tt; behind = tt }
  searched xs (Err i) rising within parted =
      let parts = parted (rising_indexes xs rising) in
      record {
        inside = tt;
        equal = tt;
        within = within;
        before = all_take (λ x. order x ≡ Less) xs i within parts.0;
        behind = all_drop (λ x. order x ≡ Greater) xs i parts.1;
      }
