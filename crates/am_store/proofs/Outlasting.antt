-- A start after a crash.
use Rattle.std.specs.Prelude.{⊤, Contains, filter}
use Rattle.std.proofs.Common.{◌≡◌, ◌⊎◌, inl, inr, ⊎_elim, ℕ, Bool, true, false, cond, List, [], ◌∷◌, ◌++◌, Option, Some, None, IfSome, option_map, unwrap_or, Result, refl, sym, ◌∙◌, ap, subst, arith, append-nil}
use Rattle.std.specs.List.{All, AllByRecursion}
use Rattle.std.proofs.lemmas.Bool.{lt-ltb}
use Rattle.std.proofs.lemmas.Cmp.{tied_itself}
use Rattle.std.proofs.lemmas.Grind.{flat_map-append}
use Rattle.std.proofs.lemmas.List.Elements.{All-contains, All-from_recursion, All-head, All-tail, Contains-append_left, Contains-append_right, Contains-append_cases, Contains-push, Contains-push_cases}
use Rattle.std.specs.declared.cmp.Ordering.{Ordering}
use Rattle.std.specs.declared.cmp.Ordering.TheVariants.{Less}
use Rattle.std.specs.Ordering.{is_ge, ordering_reverse}
use Rattle.am_version_order.specs.Versions.{Version, is_below, is_live, IsLive}
use Rattle.am_version_order.proofs.Ranks.{below_itself, below_trans}
use Rattle.am_wire.specs.declared.error.WireError.{WireError}
use Rattle.am_wire.specs.Writing.{delimited}
use Rattle.am_wire.proofs.Exact.{lists_are}
use Rattle.am_merge.specs.Maps.{IsJoin, IsMap, at, greater_of, swept}
use Rattle.am_merge.specs.Views.{HoldsBest}
use Rattle.am_merge.proofs.Keys.{IsKeyOrder, at-Contains}
use Rattle.am_merge.proofs.Puts.{at-member}
use Rattle.am_merge.proofs.Sweeps.{IsMap-filter}
use Rattle.am_snapshot.specs.Encodings.{row_encoding}
use Rattle.am_snapshot.specs.Pieces.{GoesOn}
use Rattle.am_store.specs.Blocks.{recovered, with_batch, IsBeforeOrAfter}
use Rattle.am_store.specs.Crashes.{Agrees, AtLeast, Disk, IsAmong, Known, Names, Remains, bytes_at, moments}
use Rattle.am_store.specs.Logs.{AreInBatches}
use Rattle.am_store.specs.Recovering.{IsRecovered}
use Rattle.am_store.specs.Rewrites.{Place, First, At, End, place_behind, left_at, stretch, old_log, own_log, IsWritten}
use Rattle.am_store.specs.Outlasting.{HasAtLeast, InBatches, Outlasts, Stands, StartsWith, IsKept, content_at}
use Rattle.am_store.proofs.Joining.{unbeaten_past}

-- ---- members of lists
module _ {X : Type 0} where
  pub none_held : (x : X) → Contains [] x → ⊥
  none_held x held = let lt = held.1 in omega (arith, lt)

  pub first_held : (x : X) (xs : List X) → Contains (x ∷ xs) x
  first_held x xs = Contains-append_left (x ∷ []) xs x (Contains-push [] x)

  pub later_held : (x : X) (xs : List X) (y : X) → Contains xs y → Contains (x ∷ xs) y
  later_held x xs y held = Contains-append_right (x ∷ []) xs y held

  first_or_later : (x : X) (xs : List X) (y : X) → Contains (x ∷ xs) y → (x ≡ y) ⊎ Contains xs y
  first_or_later x xs y held =
      ⊎_elim (λ one. ⊎_elim (λ none. absurd (none_held y none)) (λ is. inl is) (Contains-push_cases [] x y one)) (λ later. inr later) (Contains-append_cases (x ∷ []) xs y held)

  module _ (test : X → Bool) where
    later_kept : (b : Bool) (x : X) (xs : List X) (y : X) → Contains xs y → Contains (cond b (x ∷ xs) xs) y
    later_kept true x xs y held = later_held x xs y held
    later_kept false x xs y held = held

    passes : (xs : List X) (y : X) → Contains xs y → test y ≡ true → Contains (filter test xs) y
    passes [] y held pass = absurd (none_held y held)
    passes (x ∷ xs) y held pass = ⊎_elim
        (λ is. subst (λ (b : Bool). Contains (cond b (x ∷ filter test xs) (filter test xs)) y) (sym (ap test is ∙ pass))
        (subst (λ (z : X). Contains (x ∷ filter test xs) z) is (first_held x (filter test xs))))
        (λ later. later_kept (test x) x (filter test xs) y (passes xs y later pass))
        (first_or_later x xs y held)

    was_held : (b : Bool) (x : X) (xs all : List X) (y : X) → ((z : X) → Contains xs z → Contains all z) → Contains (cond b (x ∷ xs) xs) y → Contains (x ∷ all) y
    was_held true x xs all y within held =
        ⊎_elim (λ is. subst (λ (z : X). Contains (x ∷ all) z) is (first_held x all)) (λ later. later_held x all y (within y later)) (first_or_later x xs y held)
    was_held false x xs all y within held = later_held x all y (within y held)

    unfiltered : (xs : List X) (y : X) → Contains (filter test xs) y → Contains xs y
    unfiltered [] y held = absurd (none_held y held)
    unfiltered (x ∷ xs) y held = was_held (test x) x (filter test xs) xs y (unfiltered xs) held

-- ---- what pieces of several states have
module _ {K X : Type 0} (seen : X → Version K) (cmp : K → K → Ordering) (keys : IsKeyOrder cmp) where
  -- the key comes at a place, or behind it
  abbrev pub Reaches : Place K → K → Type 0
  Reaches First key = ⊤
  Reaches (At from) key = is_ge (cmp key from) ≡ true
  Reaches End key = ⊥

  among_left : (state : List X) (place : Place K) (w : X) → Contains state w → Reaches place (seen w).key → Contains (left_at seen cmp state place) w
  among_left state First w held reach = held
  among_left state (At key) w held reach = passes (λ v. is_ge (cmp (seen v).key key)) state w held reach
  among_left state End w held reach = absurd reach

  of_state : (state : List X) (place : Place K) (w : X) → Contains (left_at seen cmp state place) w → Contains state w
  of_state state First w held = held
  of_state state (At key) w held = unfiltered (λ v. is_ge (cmp (seen v).key key)) state w held
  of_state state End w held = absurd (none_held w held)

  left_order : (state : List X) (place : Place K) → IsMap seen cmp state → IsMap seen cmp (left_at seen cmp state place)
  left_order state First order = order
  left_order state (At key) order = IsMap-filter seen cmp (λ v. is_ge (cmp (seen v).key key)) state order
  left_order state End order = tt

  back_order : (front back : List X) → IsMap seen cmp (front ++ back) → IsMap seen cmp back
  back_order [] back order = order
  back_order (v ∷ front) back order = back_order front back order.1

  at_or_above : (u w : X) (rest : List X) → AllByRecursion (λ v. cmp (seen u).key (seen v).key ≡ Less) rest → (u ≡ w) ⊎ Contains rest w → is_ge (cmp (seen w).key (seen u).key) ≡ true
  at_or_above u w rest above (inl is) = subst (λ (v : X). is_ge (cmp (seen v).key (seen u).key) ≡ true) is (ap is_ge (tied_itself keys.total (seen u).key))
  at_or_above u w rest above (inr held) =
      let P : X → Type 0 = λ v. cmp (seen u).key (seen v).key ≡ Less in
      let less : P w = All-contains P rest w (All-from_recursion P rest above) held in
      ap is_ge (keys.total.antisymm (seen w).key (seen u).key ∙ ap ordering_reverse less)

  reaches_behind : (taken left : List X) (next : Option K) (w : X) → GoesOn seen stretch taken left next → IsMap seen cmp left → Contains left w → Reaches (place_behind next) (seen w).key
  reaches_behind taken [] next w goes order held = absurd (none_held w held)
  reaches_behind taken (u ∷ rest) next w goes order held =
      subst (λ (n : Option K). Reaches (place_behind n) (seen w).key) (sym goes.0) (at_or_above u w rest order.0 (first_or_later u rest w held))

  -- the row is that of versions of the states, and each version that all states have is among them, or its key comes at the next place
  pub record IsOf (states : List (List X)) (row : List ℕ) (place : Place K) : Type 0 where
    pub versions : List X
    pub text : row ≡ row_encoding seen versions
    pub from : (w : X) → Contains versions w → (state : List X) × Contains states state × Contains state w
    pub covers : (v : X) → All (HasAtLeast seen v) states → HasAtLeast seen v versions ⊎ Reaches place (seen v).key

  pub pieces_of : (states : List (List X)) (row : List ℕ) (place : Place K) → All (IsMap seen cmp) states → IsWritten seen cmp states row place → IsOf states row place
  pieces_of [] row place orders written = record {
    versions = [];
    text = written.0;
    from = λ w held. absurd (none_held w held);
    covers = λ v all. inr (subst (λ (p : Place K). Reaches p (seen v).key) (sym written.1) tt);
  }
  pieces_of (state ∷ earlier) row place orders (before, from, piece, written, of_piece, whole, at) =
      let was = pieces_of earlier before from (All-tail (IsMap seen cmp) state earlier orders) written in
      let order = subst (IsMap seen cmp) of_piece.parts (left_order state from (All-head (IsMap seen cmp) state earlier orders)) in
      record {
        versions = was.versions ++ of_piece.taken;
        text = whole ∙ ap (λ (l : List ℕ). l ++ piece.row) was.text ∙ ap (λ (l : List ℕ). row_encoding seen was.versions ++ l) of_piece.row
            ∙ sym (flat_map-append (λ v. delimited (seen v).content) was.versions of_piece.taken);
        from = λ w held. ⊎_elim
            (λ front. let (one, among, has) = was.from w front in (one, later_held state earlier one among, has))
            (λ taken. (
              state,
              first_held state earlier,
              of_state state from w (subst (λ (vs : List X). Contains vs w) (sym of_piece.parts) (Contains-append_left of_piece.taken of_piece.left w taken)),
            ))
            (Contains-append_cases was.versions of_piece.taken w held);
        covers = λ v all. ⊎_elim
            (λ has. inl (record { version = has.version; held = Contains-append_left was.versions of_piece.taken has.version has.held; same_key = has.same_key; not_below = has.not_below }))
            (λ reach.
            let has = All-head (HasAtLeast seen v) state earlier all in
            let w = has.version in
            let left = among_left state from w has.held (subst (Reaches from) (sym has.same_key) reach) in
            ⊎_elim
            (λ taken. inl (record { version = w; held = Contains-append_right was.versions of_piece.taken w taken; same_key = has.same_key; not_below = has.not_below }))
            (λ behind. inr (subst (λ (p : Place K). Reaches p (seen v).key) (sym at)
            (subst (Reaches (place_behind piece.next)) has.same_key
            (reaches_behind of_piece.taken of_piece.left piece.next w of_piece.next (back_order of_piece.taken of_piece.left order) behind))))
            (Contains-append_cases of_piece.taken of_piece.left w (subst (λ (vs : List X). Contains vs w) of_piece.parts left)))
            (was.covers v (All-tail (HasAtLeast seen v) state earlier all));
      }

with_more : (batches : List (List ℕ)) (batch : List ℕ) → (more : List (List ℕ)) × (with_batch batches batch ≡ batches ++ more)
with_more batches [] = ([], sym (append-nil batches))
with_more batches (byte ∷ rest) = ((byte ∷ rest) ∷ [], refl)

-- while a batch is added, a log has at least the batches before
pub still_has : (batches : List (List ℕ)) (batch file : List ℕ) → IsBeforeOrAfter batches batch file → Agrees (AtLeast batches) file
still_has batches batch file (inl is) = ([], is ∙ sym (append-nil batches))
still_has batches batch file (inr is) = let (more, same) = with_more batches batch in (more, is ∙ same)

-- ---- what a start has of what stands in the file and the logs
module _ {K X : Type 0} (seen : X → Version K) where
  pub itself : (v : X) (map : List X) → Contains map v → HasAtLeast seen v map
  itself v map held = record { version = v; held = held; same_key = refl; not_below = below_itself (seen v) }

  pub of_best : (v : X) (set map : List X) → HoldsBest seen set map → HasAtLeast seen v set → HasAtLeast seen v map
  of_best v set map best has =
      let (u, held, same) = best.keys has.version has.held in
      record {
        version = u;
        held = held;
        same_key = same ∙ has.same_key;
        not_below = unbeaten_past seen u has.version v ((best.best u held).unbeaten has.version has.held (sym same)) has.not_below;
      }

  module _ (reads : ℕ → List ℕ → Result X WireError) where
    -- a log with more batches has what it has
    of_more : (batches more : List (List ℕ)) (all some : List X) (v : X) → AreInBatches seen reads (batches ++ more) all → AreInBatches seen reads batches some → Contains some v → Contains all v
    of_more [] more all some v in_all in_some held = absurd (none_held v (subst (λ (vs : List X). Contains vs v) in_some held))
    of_more (batch ∷ batches) more all some v (first, others, read, rest, is) (one, later, again, behind, are) held =
        let same : one ≡ first = lists_are one first (sym again ∙ read) in
        subst (λ (vs : List X). Contains vs v) (sym is) (⊎_elim
        (λ here. Contains-append_left first others v (subst (λ (vs : List X). Contains vs v) same here))
        (λ there. Contains-append_right first others v (of_more batches more others later v rest behind there))
        (Contains-append_cases one later v (subst (λ (vs : List X). Contains vs v) are held)))

    of_batches : (batches : List (List ℕ)) (all some : List X) (v : X) → AreInBatches seen reads batches all → AreInBatches seen reads batches some → Contains some v → Contains all v
    of_batches batches all some v in_all in_some held =
        of_more batches [] all some v (subst (λ (bs : List (List ℕ)). AreInBatches seen reads bs all) (sym (append-nil batches)) in_all) in_some held

    module _ (path : List ℕ) where
      module _ (v : X) (left : Remains) (map : List X) (starts : StartsWith seen reads path left map) where
        abbrev set : List X
        set = starts.in_row ++ starts.in_first ++ starts.in_second

        pub of_row : HasAtLeast seen v starts.in_row → HasAtLeast seen v map
        of_row has = of_best v set map starts.best (record {
          version = has.version;
          held = Contains-append_left (starts.in_row ++ starts.in_first) starts.in_second has.version (Contains-append_left starts.in_row starts.in_first has.version has.held);
          same_key = has.same_key;
          not_below = has.not_below;
        })

        pub of_old_log : Contains starts.in_first v → HasAtLeast seen v map
        of_old_log held =
            of_best v set map starts.best (itself v set (Contains-append_left (starts.in_row ++ starts.in_first) starts.in_second v (Contains-append_right starts.in_row starts.in_first v held)))

        pub of_own_log : Contains starts.in_second v → HasAtLeast seen v map
        of_own_log held = of_best v set map starts.best (itself v set (Contains-append_right (starts.in_row ++ starts.in_first) starts.in_second v held))

      pub stands_kept : (v : X) (left : Remains) → Stands seen reads path v left → IsKept seen reads path v left
      stands_kept v left (inl (versions, all, held)) map starts =
          of_row v left map starts (itself v starts.in_row (subst (λ (vs : List X). Contains vs v) (lists_are versions starts.in_row (sym all ∙ starts.all_of_row)) held))
      stands_kept v left (inr (inl (versions, all, held))) map starts =
          of_old_log v left map starts (of_batches (recovered (content_at left (old_log path))) starts.in_first versions v starts.all_of_first all held)
      stands_kept v left (inr (inr (versions, all, held))) map starts =
          of_own_log v left map starts (of_batches (recovered (content_at left (own_log path))) starts.in_second versions v starts.all_of_second all held)

      -- a log that has at least some batches keeps what is in them
      pub logged_kept : (v : X) (batches : List (List ℕ)) (left : Remains) → InBatches seen reads batches v → Agrees (AtLeast batches) (content_at left (own_log path)) → IsKept seen reads path v left
      logged_kept v batches left (some, in_some, held) (more, same) map starts =
          of_own_log v left map starts
          (of_more batches more starts.in_second some v (subst (λ (bs : List (List ℕ)). AreInBatches seen reads bs starts.in_second) same starts.all_of_second) in_some held)

      pub acknowledged_kept : (v : X) (batches : List (List ℕ)) (batch : List ℕ) (left : Remains) → InBatches seen reads batches v → IsBeforeOrAfter batches batch (content_at left (own_log path)) → IsKept seen reads path v left
      acknowledged_kept v batches batch left among is = logged_kept v batches left among (still_has batches batch (content_at left (own_log path)) is)

      pub log_outlasts : (v : X) (batches : List (List ℕ)) (file : ℕ) (disk : Disk) → InBatches seen reads batches v → disk.known file ≡ Some (AtLeast batches)
          → ((names : Names) → IsAmong names (moments disk) → names (own_log path) ≡ Some file) → Outlasts seen reads path v disk
      log_outlasts v batches file disk among known named left may =
          logged_kept v batches left among
          (subst (λ (o : Option ℕ). Agrees (AtLeast batches) (unwrap_or (option_map left.bytes o) [])) (sym (named left.names may.names))
          (subst (λ (o : Option Known). IfSome o (λ k. Agrees k (left.bytes file))) known (may.files file)))

      -- what a start has of the same files is the same
      pub same_start : (earlier left : Remains) (map : List X) → bytes_at earlier path ≡ bytes_at left path → bytes_at earlier (old_log path) ≡ bytes_at left (old_log path)
          → bytes_at earlier (own_log path) ≡ bytes_at left (own_log path) → StartsWith seen reads path left map → StartsWith seen reads path earlier map
      same_start earlier left map a b c starts =
          let bytes : Option (List ℕ) → List ℕ = λ o. unwrap_or o [] in
          subst (λ (o : Option (List ℕ)). IsRecovered seen reads (bytes o) (content_at earlier (old_log path)) (content_at earlier (own_log path)) map) (sym a)
          (subst (λ (o : Option (List ℕ)). IsRecovered seen reads (content_at left path) (bytes o) (content_at earlier (own_log path)) map) (sym b)
          (subst (λ (o : Option (List ℕ)). IsRecovered seen reads (content_at left path) (content_at left (old_log path)) (bytes o) map) (sym c) starts))

-- ---- what a state has it keeps
module _ {K X : Type 0} (seen : X → Version K) (v : X) where
  not_above : (w x : X) (b : Bool) → is_below (seen x) (seen v) ≡ b → is_below (seen w) (seen x) ≡ true → is_below (seen w) (seen v) ≡ false → b ≡ false
  not_above w x true is below not = let past = below_trans (seen w) (seen x) (seen v) below is in cc
  not_above w x false is below not = refl

  module _ (cmp : K → K → Ordering) (keys : IsKeyOrder cmp) (state joined : List X) (order : IsMap seen cmp state) (has : HasAtLeast seen v state) where
    found : (u : X) → at seen cmp joined (seen has.version).key ≡ Some u → is_below (seen u) (seen v) ≡ false → HasAtLeast seen v joined
    found u is not =
        let (same, held) = at-Contains seen cmp keys joined (seen has.version).key u is in
        record { version = u; held = held; same_key = same ∙ has.same_key; not_below = not }

    greater : (x : X) (b : Bool) → is_below (seen has.version) (seen x) ≡ b → at seen cmp joined (seen has.version).key ≡ cond b (Some x) (Some has.version) → HasAtLeast seen v joined
    greater x true below is = found x is (not_above has.version x (is_below (seen x) (seen v)) refl below has.not_below)
    greater x false below is = found has.version is has.not_below

    either : (other : Option X) → at seen cmp joined (seen has.version).key ≡ greater_of seen (Some has.version) other → HasAtLeast seen v joined
    either None is = found has.version is has.not_below
    either (Some x) is = greater x (is_below (seen has.version) (seen x)) refl is

    pub join_has : (other : List X) → IsJoin seen cmp state other joined → HasAtLeast seen v joined
    join_has other join =
        let key = (seen has.version).key in
        either (at seen cmp other key) (join key ∙ ap (λ (o : Option X). greater_of seen o (at seen cmp other key)) (at-member seen cmp keys state has.version order has.held))

  pub swept_has : (now : ℕ) (state : List X) (has : HasAtLeast seen v state) → IsLive now (seen has.version) → HasAtLeast seen v (swept seen now state)
  swept_has now state has live = record {
    version = has.version;
    held = passes (λ w. is_live now (seen w)) state has.version has.held (lt-ltb now (seen has.version).expires live);
    same_key = has.same_key;
    not_below = has.not_below;
  }
