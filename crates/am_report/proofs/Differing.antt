-- Sources have one list of differences; and the lists of a walk.
use Rattle.std.proofs.Common.{◌≡◌, ℕ, suc, Bool, true, false, List, [], ◌∷◌, ◌++◌, Option, Some, None, get_or, map, refl, sym, ap, ap₂, ◌∙◌, subst, append_assoc, append-nil, arith}
use Rattle.std.specs.Prelude.{All, AllPairs}
use Rattle.std.specs.List.{AllByRecursion, flat_map}
use Rattle.std.proofs.lemmas.List.{flat_map_more}
use Rattle.std.proofs.lemmas.List.Elements.{All-contains, recursion_from_All}
use Rattle.std.specs.declared.cmp.Ordering.{Ordering}
use Rattle.std.specs.declared.cmp.Ordering.TheVariants.{Less}
use Rattle.am_version_order.specs.Versions.{Version}
use Rattle.am_merge.specs.Maps.{IsMap, at}
use Rattle.am_merge.proofs.Keys.{IsKeyOrder, at-Contains, all_weaker, both_parts}
use Rattle.am_merge.proofs.Puts.{at-member}
use Rattle.am_merge.proofs.Joins.{same_map}
use Rattle.am_report.specs.Sources.{Source, Holding, MergeCursor, holding_of, side_of, rest_of}
use Rattle.am_report.specs.Differences.{Difference, AreDifferences, held_at, is_different}
use Rattle.am_report.specs.Groups.{within, greatest_within}
use Rattle.am_report.specs.declared.compared.Compared.{Compared}
use Rattle.am_report.proofs.Agreeing.{from_map}
use Rattle.am_report.proofs.Loops.{unbounded}
use Rattle.am_report.proofs.Ranking.{greatest_here, nothing_within}
use Rattle.am_report.proofs.Stepping.{none_different}
use Rattle.am_report.specs.ReportLine.{IsKeyOf, is_any, difference_lines}
use Rattle.am_report.specs.Written.{AreLines}

-- a walk begins at the sources
pub begins_there : {X : Type 0} (sources : List (Source X)) → map rest_of (map side_of sources) ≡ sources
begins_there [] = refl
begins_there (source ∷ sources) = ap (λ ss. source ∷ ss) (begins_there sources)

module _ {K X : Type 0} (seen : X → Version K) (cmp : K → K → Ordering) (keys : IsKeyOrder cmp) (compared : Compared) (now : ℕ) (sources : List (Source X)) where
  -- ---- one list

  -- a difference by its key alone
  keyed : Difference K X → Version K
  keyed difference = record { key = difference.key; updated = 0; expires = 0; content = [] }

  pairs_head : {Y : Type 0} (R : Y → Y → Type 0) (x : Y) (xs : List Y) → AllPairs R (x ∷ xs) → All (R x) xs
  pairs_head R x xs pairs = λ k d less. pairs 0 (suc k) d (omega arith) (omega arith)

  pairs_tail : {Y : Type 0} (R : Y → Y → Type 0) (x : Y) (xs : List Y) → AllPairs R (x ∷ xs) → AllPairs R xs
  pairs_tail R x xs pairs = λ i j d less within. pairs (suc i) (suc j) d (omega arith) (omega arith)

  map_from : (differences : List (Difference K X)) → AllPairs (λ one other. cmp one.key other.key ≡ Less) differences → IsMap keyed cmp differences
  unfolding keyed
  map_from [] order = tt
  map_from (difference ∷ differences) order = (
    recursion_from_All (λ (d : Difference K X). cmp difference.key d.key ≡ Less) differences (pairs_head (λ (one : Difference K X) (other : Difference K X). cmp one.key other.key ≡ Less) difference differences order),
    map_from differences (pairs_tail (λ (one : Difference K X) (other : Difference K X). cmp one.key other.key ≡ Less) difference differences order),
  )

  abbrev Lists : List (Difference K X) → Type 0
  Lists differences = AreDifferences seen cmp compared now sources differences

  map_of : (differences : List (Difference K X)) → Lists differences → IsMap keyed cmp differences
  map_of differences are = map_from differences are.order

  same_difference : (one other : Difference K X) → one.holdings ≡ held_at seen cmp one.key sources → other.holdings ≡ held_at seen cmp other.key sources
      → one.key ≡ other.key → one ≡ other
  same_difference one other here there key =
      let holdings : one.holdings ≡ other.holdings = here ∙ ap (λ k. held_at seen cmp k sources) key ∙ sym there in
      let made : K → List (Holding X) → Difference K X = λ k hs. record { key = k; holdings = hs } in
      ap₂ made key holdings

  -- what one list has at a key, the other has too
  also_at : (one other : List (Difference K X)) → Lists one → Lists other → (key : K) (d : Difference K X) → at keyed cmp one key ≡ Some d → at keyed cmp other key ≡ Some d
  unfolding keyed
  also_at one other is are key d found =
      let inside = at-Contains keyed cmp keys one key d found in
      let here = All-contains (λ (e : Difference K X). e.holdings ≡ held_at seen cmp e.key sources) one d is.held inside.1 in
      let differs = All-contains (λ (e : Difference K X). is_different seen compared now e.holdings ≡ true) one d is.different inside.1 in
      let there = are.whole d.key (subst (λ holdings. is_different seen compared now holdings ≡ true) here differs) in
      let held = All-contains (λ (e : Difference K X). e.holdings ≡ held_at seen cmp e.key sources) other there.0 are.held there.1 in
      let same = same_difference there.0 d held here there.2 in
      let member = at-member keyed cmp keys other there.0 (map_of other are) there.1 in
      ap (λ k. at keyed cmp other k) (sym (there.2 ∙ inside.0)) ∙ member ∙ ap Some same

  same_by : (one other : List (Difference K X)) → Lists one → Lists other → (key : K) (o p : Option (Difference K X)) → at keyed cmp one key ≡ o → at keyed cmp other key ≡ p
      → at keyed cmp one key ≡ at keyed cmp other key
  same_by one other is are key (Some d) p here there = here ∙ sym (also_at one other is are key d here)
  same_by one other is are key None (Some e) here there = also_at other one are is key e there ∙ sym there
  same_by one other is are key None None here there = here ∙ sym there

  pub one_list : (one other : List (Difference K X)) → Lists one → Lists other → one ≡ other
  one_list one other is are =
      same_map keyed cmp keys one other (map_of one is) (map_of other are)
      (λ key. same_by one other is are key (at keyed cmp one key) (at keyed cmp other key) refl refl)

  -- ---- the greatest version of a difference has its key

  at_key : (key : K) (v : X) → greatest_within seen None (held_at seen cmp key sources) ≡ Some v → (seen v).key ≡ key
  at_key key v is =
      let here = greatest_here seen None (held_at seen cmp key sources) v is in
      let source = from_map (λ (s : Source X). let h : Holding X = record { name = s.name; here = at seen cmp s.held key } in h) sources here.0 here.1 in
      let there : at seen cmp source.0.held key ≡ Some v = ap (λ (h : Holding X). h.here) source.2 ∙ unbounded seen here.0.here ∙ here.2 in
      (at-Contains seen cmp keys source.0.held key v there).0

  key_by : (key : K) (o : Option X) → greatest_within seen None (held_at seen cmp key sources) ≡ o → is_different seen compared now (held_at seen cmp key sources) ≡ true
      → IsKeyOf seen (held_at seen cmp key sources) key
  key_by key (Some v) is differs = record { greatest = v; held = is; own = at_key key v is }
  key_by key None is differs =
      let none = nothing_within seen None (held_at seen cmp key sources) is in
      let empty =
      all_weaker (λ (h : Holding X). within seen None h.here ≡ None) (λ (h : Holding X). h.here ≡ None) (λ h e. unbounded seen h.here ∙ e) (held_at seen cmp key sources)
      (recursion_from_All (λ (h : Holding X). within seen None h.here ≡ None) (held_at seen cmp key sources) none) in
      let quiet = none_different seen compared now (held_at seen cmp key sources) empty in
      absurd cc

  abbrev pub HasKey : Difference K X → Type 0
  HasKey difference = IsKeyOf seen difference.holdings difference.key

  have_keys : (differences : List (Difference K X)) → AreDifferences seen cmp compared now sources differences → AllByRecursion HasKey differences
  have_keys differences are =
      recursion_from_All HasKey differences
      (λ k d less.
      let held = are.held k d less in
      let differs = are.different k d less in
      let key = (get_or differences k d).key in
      subst (λ holdings. IsKeyOf seen holdings key) (sym held)
      (key_by key (greatest_within seen None (held_at seen cmp key sources)) refl (subst (λ holdings. is_different seen compared now holdings ≡ true) held differs)))

-- ---- a piece of text for each difference, of bytes or of what else

module _ {K X C : Type 0} (seen : X → Version K) (cmp : K → K → Ordering) (compared : Compared) (now : ℕ) (piece : Difference K X → List C) where
  -- the differences so far, and those of what is left, are all; and the pieces of those so far are written
  pub record AreTold (all left : List (MergeCursor X)) (start text : List C) (found : Bool) : Type 0 where
    pub done : List (Difference K X)
    pub same : (differences : List (Difference K X)) → AreDifferences seen cmp compared now (map rest_of left) differences
        → AreDifferences seen cmp compared now (map rest_of all) (done ++ differences)
    pub text_is : AllByRecursion (λ d. IsKeyOf seen d.holdings d.key) done → text ≡ start ++ flat_map piece done
    pub found_is : found ≡ is_any done

  pub none_told : (sides : List (MergeCursor X)) (start : List C) → AreTold sides sides start start false
  none_told sides start = record {
    done = [];
    same = λ differences are. are;
    text_is = λ _. sym (append-nil start);
    found_is = refl;
  }

  some_any : (done : List (Difference K X)) (d : Difference K X) → true ≡ is_any (done ++ d ∷ [])
  some_any [] d = refl
  some_any (first ∷ done) d = refl

  pub told_more : (all left new : List (MergeCursor X)) (start text longer : List C) (found : Bool) → AreTold all left start text found
      → ((key : K) × ((differences : List (Difference K X)) → AreDifferences seen cmp compared now (map rest_of new) differences
      → AreDifferences seen cmp compared now (map rest_of left) (record { key = key; holdings = map holding_of new } ∷ differences)))
      → ((key : K) → IsKeyOf seen (map holding_of new) key → longer ≡ text ++ piece (record { key = key; holdings = map holding_of new }))
      → AreTold all new start longer true
  told_more all left new start text longer found before next written =
      let d : Difference K X = record { key = next.0; holdings = map holding_of new } in
      record {
        done = before.done ++ d ∷ [];
        same = λ differences are.
            subst (λ ds. AreDifferences seen cmp compared now (map rest_of all) ds) (sym (append_assoc before.done (d ∷ []) differences))
            (before.same (d ∷ differences) (next.1 differences are));
        text_is = λ keys.
            let parts = both_parts (λ (e : Difference K X). IsKeyOf seen e.holdings e.key) before.done (d ∷ []) keys in
            written next.0 parts.1.0 ∙ ap (λ t. t ++ piece d) (before.text_is parts.0) ∙ flat_map_more piece start before.done d;
        found_is = some_any before.done d;
      }

  -- at the end of the walk
  pub record AreAllTold (all : List (MergeCursor X)) (start text : List C) (found : Bool) : Type 0 where
    pub differences : List (Difference K X)
    pub are : AreDifferences seen cmp compared now (map rest_of all) differences
    pub any : found ≡ is_any differences
    pub text_is : text ≡ start ++ flat_map piece differences

  pub told_all : IsKeyOrder cmp → (all left : List (MergeCursor X)) (start text : List C) (found : Bool) → AreTold all left start text found
      → AreDifferences seen cmp compared now (map rest_of left) [] → AreAllTold all start text found
  told_all keys all left start text found before none =
      let are = subst (λ ds. AreDifferences seen cmp compared now (map rest_of all) ds) (append-nil before.done) (before.same [] none) in record {
        differences = before.done;
        are = are;
        any = before.found_is;
        text_is = before.text_is (have_keys seen cmp keys compared now (map rest_of all) before.done are);
      }

-- ---- the lines

module _ {K X : Type 0} (seen : X → Version K) (cmp : K → K → Ordering) (compared : Compared) (now : ℕ) (begins : K → List ℕ) (told : X → List ℕ) (more by : X → X → List ℕ) where
  pub all_lines : (all : List (MergeCursor X)) (start text : List ℕ) (found : Bool) → AreAllTold seen cmp compared now (difference_lines seen begins told more by) all start text found
      → (lines : List ℕ) × AreLines seen cmp begins told more by compared now (map rest_of all) found lines × (text ≡ start ++ lines)
  all_lines all start text found are = (
    flat_map (difference_lines seen begins told more by) are.differences,
    record { differences = are.differences; all = are.are; any = are.any; text = refl },
    are.text_is,
  )

  pub one_text : IsKeyOrder cmp → (sources : List (Source X)) (found other_found : Bool) (lines others : List ℕ)
      → AreLines seen cmp begins told more by compared now sources found lines → AreLines seen cmp begins told more by compared now sources other_found others
      → (found ≡ other_found) × (lines ≡ others)
  one_text keys sources found other_found lines others are also =
      let same = one_list seen cmp keys compared now sources are.differences also.differences are.all also.all in (
        are.any ∙ ap is_any same ∙ sym also.any,
        are.text ∙ ap (λ ds. flat_map (difference_lines seen begins told more by) ds) same ∙ sym also.text,
      )
