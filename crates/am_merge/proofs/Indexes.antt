-- An index when something is put into its table or taken out, and what a search over it finds.
use Rattle.std.proofs.Common.{◌≡◌, ◌≢◌, ◌⊎◌, ℕ, ◌<◌, ◌≤◌, suc, zero, List, [], ◌∷◌, ◌++◌, length, take, drop, get_or, Option, Some, None, refl, sym, ap, ◌∙◌, subst, arith, inl, inr, Contains}
use Rattle.std.specs.Prelude.{insert}
use Rattle.std.specs.List.{AllByRecursion, All, AllPairs, HoldsAt, remove}
use Rattle.std.proofs.lemmas.Bool.{cases_eq}
use Rattle.std.proofs.lemmas.List.{take-append-drop, get_or_default}
use Rattle.std.proofs.lemmas.List.Elements.{All-contains, filter_map-append, recursion_from_All, All-from_recursion, Contains-append_left, Contains-append_right, Contains-append_cases}
use Rattle.std.proofs.lemmas.List.Kept.{AllPairs-cons}
use Rattle.std.specs.declared.cmp.Ordering.{Ordering}
use Rattle.std.specs.declared.cmp.Ordering.TheVariants.{Less, Equal, Greater}
use Rattle.std.specs.Ordering.{ordering_reverse}
use Rattle.std.proofs.lemmas.Cmp.{tied_itself}
use Rattle.am_version_order.specs.Versions.{Version}
use Rattle.am_merge.specs.Indexes.{Changes, filed, Names, IsIndex}
use Rattle.am_merge.specs.Maps.{IsMap}
use Rattle.am_merge.specs.Places.{IsPlaceOf, IsGapFor}
use Rattle.am_merge.proofs.Keys.{IsKeyOrder, AreBelow, AreAbove, IsBetween, IsMap-insert, IsMap-without, both_parts, all_joined}
use Rattle.am_merge.proofs.Puts.{cut_at}

pub some_is : {Y : Type 0} {x y : Y} → Some x ≡ Some y → x ≡ y
some_is e = cc

pub Contains-head : {X : Type 0} (x : X) (xs : List X) → Contains (x ∷ xs) x
Contains-head x xs = (0, omega arith, refl)

pub Contains-tail : {X : Type 0} (head x : X) (xs : List X) → Contains xs x → Contains (head ∷ xs) x
Contains-tail head x xs p = (suc p.0, omega (arith, p.1), p.2)

pub Contains-cases : {X : Type 0} (head x : X) (xs : List X) → Contains (head ∷ xs) x → (head ≡ x) ⊎ Contains xs x
Contains-cases {X} head x xs p = by p.0 p.1 p.2 where
  by : (k : ℕ) → k < suc (length xs) → get_or (head ∷ xs) k x ≡ x → (head ≡ x) ⊎ Contains xs x
  by zero within found = inl found
  by (suc k) within found = inr (k, omega arith, found)

module _ {E Y : Type 0} (slot_of : E → ℕ) (entry : ℕ → Y → E) (slot_entry : (s : ℕ) (y : Y) → slot_of (entry s y) ≡ s) where
  abbrev pub Sound : (ℕ → Option Y) → List E → Type 0
  Sound table es = AllByRecursion (Names slot_of entry table) es

  -- no entry has the slot
  abbrev pub Apart : ℕ → List E → Type 0
  Apart s es = AllByRecursion (λ e. slot_of e ≢ s) es

  abbrev pub listed : (ℕ → Option Y) → List E → List Y
  listed table es = filed slot_of table es

  pub listed-more : (table : ℕ → Option Y) (e : E) (es : List E) (y : Y) → table (slot_of e) ≡ Some y → listed table (e ∷ es) ≡ y ∷ listed table es
  listed-more table e es y there = rw there refl

  listed-join : (table : ℕ → Option Y) (front back : List E) → listed table (front ++ back) ≡ listed table front ++ listed table back
  listed-join table front back = filter_map-append (λ e. table (slot_of e)) front back

  listed-around : (table : ℕ → Option Y) (front back : List E) (e : E) (y : Y) → table (slot_of e) ≡ Some y → listed table (front ++ e ∷ back) ≡ listed table front ++ y ∷ listed table back
  listed-around table front back e y there = listed-join table front (e ∷ back) ∙ ap (λ ys. listed table front ++ ys) (listed-more table e back y there)

  pub listed-length : (table : ℕ → Option Y) (es : List E) → Sound table es → length (listed table es) ≡ length es
  listed-length table [] sound = refl
  listed-length table (e ∷ es) sound = ap length (listed-more table e es sound.0.value sound.0.there) ∙ ap suc (listed-length table es sound.1)

  pub listed-take : (table : ℕ → Option Y) (es : List E) (i : ℕ) → Sound table es → take i (listed table es) ≡ listed table (take i es)
  listed-take table es zero sound = refl
  listed-take table [] (suc i) sound = refl
  listed-take table (e ∷ es) (suc i) sound =
      ap (λ ys. take (suc i) ys) (listed-more table e es sound.0.value sound.0.there)
      ∙ ap (λ ys. sound.0.value ∷ ys) (listed-take table es i sound.1)
      ∙ sym (listed-more table e (take i es) sound.0.value sound.0.there)

  pub listed-drop : (table : ℕ → Option Y) (es : List E) (i : ℕ) → Sound table es → drop i (listed table es) ≡ listed table (drop i es)
  listed-drop table es zero sound = refl
  listed-drop table [] (suc i) sound = refl
  listed-drop table (e ∷ es) (suc i) sound =
      ap (λ ys. drop (suc i) ys) (listed-more table e es sound.0.value sound.0.there)
      ∙ listed-drop table es i sound.1

  -- what the entry at a place names is at that place
  pub listed-at : (table : ℕ → Option Y) (es : List E) (i : ℕ) (e : E) (y : Y) → Sound table es → i < length es → get_or es i e ≡ e → table (slot_of e) ≡ Some y → get_or (listed table es) i y ≡ y
  listed-at table [] i e y sound within is there = absurd (omega arith)
  listed-at table (x ∷ es) zero e y sound within is there =
      ap (λ ys. get_or ys zero y) (listed-more table x es sound.0.value sound.0.there)
      ∙ some_is (sym sound.0.there ∙ ap (λ z. table (slot_of z)) is ∙ there)
  listed-at table (x ∷ es) (suc i) e y sound within is there =
      ap (λ ys. get_or ys (suc i) y) (listed-more table x es sound.0.value sound.0.there)
      ∙ listed-at table es i e y sound.1 (omega arith) is there

  pub sound-at : (table : ℕ → Option Y) (es : List E) (i : ℕ) (e : E) → Sound table es → i < length es → get_or es i e ≡ e → Names slot_of entry table e
  sound-at table [] i e sound within is = absurd (omega arith)
  sound-at table (x ∷ es) zero e sound within is = subst (Names slot_of entry table) is sound.0
  sound-at table (x ∷ es) (suc i) e sound within is = sound-at table es i e sound.1 (omega arith) is

  -- what holds of all that the table has holds of all that is named
  pub listed-all : (table : ℕ → Option Y) (P : Y → Type 0) → ((s : ℕ) (y : Y) → table s ≡ Some y → P y) → (es : List E) → Sound table es → AllByRecursion P (listed table es)
  listed-all table P each [] sound = tt
  listed-all table P each (e ∷ es) sound = subst (AllByRecursion P) (sym (listed-more table e es sound.0.value sound.0.there)) (each (slot_of e) sound.0.value sound.0.there, listed-all table P each es sound.1)

  module _ (old new : ℕ → Option Y) (s : ℕ) (o : Option Y) (changes : Changes old new s o) where
    -- what doesn't have the slot stays as it was
    pub listed-apart : (es : List E) → Apart s es → listed new es ≡ listed old es
    listed-apart [] apart = refl
    listed-apart (e ∷ es) apart = let same = changes.others (slot_of e) apart.0 in let rest = listed-apart es apart.1 in rw (same, rest) refl

    pub sound-apart : (es : List E) → Apart s es → Sound old es → Sound new es
    sound-apart [] apart sound = tt
    sound-apart (e ∷ es) apart sound =
        (record { value = sound.0.value; there = changes.others (slot_of e) apart.0 ∙ sound.0.there; is = sound.0.is }, sound-apart es apart.1 sound.1)

  pub vacant-apart : (table : ℕ → Option Y) (s : ℕ) → table s ≡ None → (es : List E) → Sound table es → Apart s es
  vacant-apart table s vacant [] sound = tt
  vacant-apart table s vacant (e ∷ es) sound =
      ((λ same. let there = sound.0.there in let none : table (slot_of e) ≡ None = ap table same ∙ vacant in cc), vacant-apart table s vacant es sound.1)

  -- where all that is named has what the slot's has not, none has the slot
  pub differs-apart : (table : ℕ → Option Y) (s : ℕ) (y : Y) (P : Y → Type 0) → table s ≡ Some y → (P y → ⊥) → (es : List E) → Sound table es → AllByRecursion P (listed table es) → Apart s es
  differs-apart table s y P there never [] sound all = tt
  differs-apart table s y P there never (e ∷ es) sound all =
      let parts = subst (AllByRecursion P) (listed-more table e es sound.0.value sound.0.there) all in (
        (λ same. never (subst P (some_is (sym sound.0.there ∙ ap table same ∙ there)) parts.0)),
        differs-apart table s y P there never es sound.1 parts.1,
      )

  names-own : (table : ℕ → Option Y) (s : ℕ) (y : Y) → table s ≡ Some y → Names slot_of entry table (entry s y)
  names-own table s y there =
      record { value = y; there = ap table (slot_entry s y) ∙ there; is = ap (λ t. entry t y) (sym (slot_entry s y)) }

  -- ---- something is put into an empty slot
  module _ (old new : ℕ → Option Y) (s : ℕ) (y : Y) (changes : Changes old new s (Some y)) (vacant : old s ≡ None) (es : List E) (index : IsIndex slot_of entry old es) (i : ℕ) where
    parts : Sound old (take i es) × Sound old (drop i es)
    parts = both_parts (Names slot_of entry old) (take i es) (drop i es) (subst (Sound old) (sym (take-append-drop i es)) index.sound)

    front_apart : Apart s (take i es)
    front_apart = vacant-apart old s vacant (take i es) parts.0

    back_apart : Apart s (drop i es)
    back_apart = vacant-apart old s vacant (drop i es) parts.1

    put_there : new (slot_of (entry s y)) ≡ Some y
    put_there = ap new (slot_entry s y) ∙ changes.changed

    put-contains : (t : ℕ) (z : Y) → new t ≡ Some z → Contains (insert es i (entry s y)) (entry t z)
    put-contains t z there = elim (cases_eq t s) [
      | inl same ↦
          let is : z ≡ y = some_is (sym there ∙ ap new same ∙ changes.changed) in
          let known : entry s y ≡ entry t z = λ k. entry (sym same k) (sym is k) in
          Contains-append_right (take i es) (entry s y ∷ drop i es) (entry t z) (subst (λ x. Contains (entry s y ∷ drop i es) x) known (Contains-head (entry s y) (drop i es)))
      | inr differs ↦
          let before : Contains es (entry t z) = index.complete t z (sym (changes.others t differs) ∙ there) in
          elim (Contains-append_cases (take i es) (drop i es) (entry t z) (subst (λ xs. Contains xs (entry t z)) (sym (take-append-drop i es)) before)) [
            | inl low ↦ Contains-append_left (take i es) (entry s y ∷ drop i es) (entry t z) low
            | inr high ↦ Contains-append_right (take i es) (entry s y ∷ drop i es) (entry t z) (Contains-tail (entry s y) (entry t z) (drop i es) high)
          ]
    ]

    pub index-put : IsIndex slot_of entry new (insert es i (entry s y))
    index-put =
        record {
          sound = all_joined (Names slot_of entry new) (take i es) (entry s y ∷ drop i es)
              (sound-apart old new s (Some y) changes (take i es) front_apart parts.0)
              (names-own new s y changes.changed, sound-apart old new s (Some y) changes (drop i es) back_apart parts.1);
          complete = put-contains;
        }

    pub listed-put : listed new (insert es i (entry s y)) ≡ insert (listed old es) i y
    listed-put =
        listed-around new (take i es) (drop i es) (entry s y) y put_there
        ∙ ap (λ xs. xs ++ y ∷ listed new (drop i es)) (listed-apart old new s (Some y) changes (take i es) front_apart ∙ sym (listed-take old es i index.sound))
        ∙ ap (λ xs. take i (listed old es) ++ y ∷ xs) (listed-apart old new s (Some y) changes (drop i es) back_apart ∙ sym (listed-drop old es i index.sound))

  -- ---- an index in the order of a key of what it names
  module _ {R : Type 0} (seen : Y → Version R) (cmp : R → R → Ordering) (keys : IsKeyOrder cmp) where
    never_below : (y : Y) → cmp (seen y).key (seen y).key ≡ Less → ⊥
    never_below y less = let tie = tied_itself keys.total (seen y).key in cc

    module _ (table : ℕ → Option Y) (s : ℕ) (y : Y) (there : table s ≡ Some y) (es : List E) (index : IsIndex slot_of entry table es) (order : IsMap seen cmp (listed table es)) (i : ℕ) (e : E) (within : i < length es) (at : e ≡ get_or es i e) where
      pub cut : es ≡ take i es ++ e ∷ drop (suc i) es
      cut = cut_at es i e within at

      pub sides : Sound table (take i es) × (Names slot_of entry table e × Sound table (drop (suc i) es))
      sides = let all = both_parts (Names slot_of entry table) (take i es) (e ∷ drop (suc i) es) (subst (Sound table) cut index.sound) in (all.0, (all.1.0, all.1.1))

      abbrev pub value : Y
      value = sides.1.0.value

      listed_cut : listed table es ≡ listed table (take i es) ++ value ∷ listed table (drop (suc i) es)
      listed_cut = ap (listed table) cut ∙ listed-around table (take i es) (drop (suc i) es) e value sides.1.0.there

      between : IsBetween seen cmp (seen value).key (listed table (take i es)) (listed table (drop (suc i) es))
      between = (IsMap-without seen cmp keys value (listed table (take i es)) (listed table (drop (suc i) es)) (subst (IsMap seen cmp) listed_cut order)).1

      -- an entry at the key of what is in the slot is the slot's
      pub same-slot : (seen value).key ≡ (seen y).key → slot_of e ≡ s
      same-slot key =
          let kept : Contains (take i es ++ e ∷ drop (suc i) es) (entry s y) = subst (λ xs. Contains xs (entry s y)) cut (index.complete s y there) in
          let own = slot_entry s y in
          let low : Apart s (take i es) = differs-apart table s y (λ v. cmp (seen v).key (seen value).key ≡ Less) there (λ less. never_below y (subst (λ k. cmp (seen y).key k ≡ Less) key less)) (take i es) sides.0 between.below in
          let high : Apart s (drop (suc i) es) = differs-apart table s y (λ v. cmp (seen value).key (seen v).key ≡ Less) there (λ less. never_below y (subst (λ k. cmp k (seen y).key ≡ Less) key less)) (drop (suc i) es) sides.1.1 between.above in
          elim (Contains-append_cases (take i es) (e ∷ drop (suc i) es) (entry s y) kept) [
            | inl front ↦ absurd (apart-never s (take i es) (entry s y) low own front)
            | inr rest ↦ elim (Contains-cases e (entry s y) (drop (suc i) es) rest) [
              | inl is ↦ ap slot_of is ∙ own
              | inr back ↦ absurd (apart-never s (drop (suc i) es) (entry s y) high own back)
            ]
          ]
        where
          apart-never : (t : ℕ) (xs : List E) (x : E) → Apart t xs → slot_of x ≡ t → Contains xs x → ⊥
          apart-never t xs x apart same inside = All-contains (λ z. slot_of z ≢ t) xs x (All-from_recursion (λ z. slot_of z ≢ t) xs apart) inside same

      module _ (own : slot_of e ≡ s) where
        pub value_is : value ≡ y
        value_is = some_is (sym sides.1.0.there ∙ ap table own ∙ there)

        pub entry_is : e ≡ entry s y
        entry_is = sides.1.0.is ∙ (λ k. entry (own k) (value_is k))

        low_apart : Apart s (take i es)
        low_apart = differs-apart table s y (λ v. cmp (seen v).key (seen value).key ≡ Less) there (λ less. never_below y (subst (λ v. cmp (seen y).key (seen v).key ≡ Less) value_is less)) (take i es) sides.0 between.below

        high_apart : Apart s (drop (suc i) es)
        high_apart = differs-apart table s y (λ v. cmp (seen value).key (seen v).key ≡ Less) there (λ less. never_below y (subst (λ v. cmp (seen v).key (seen y).key ≡ Less) value_is less)) (drop (suc i) es) sides.1.1 between.above

        pub listed_here : get_or (listed table es) i y ≡ y
        listed_here = listed-at table es i e y index.sound within (sym at) (ap table own ∙ there)

        -- ---- it is taken out
        module _ (new : ℕ → Option Y) (changes : Changes table new s None) where
          take-contains : (t : ℕ) (z : Y) → new t ≡ Some z → Contains (remove es i) (entry t z)
          take-contains t z found = elim (cases_eq t s) [
            | inl same ↦ let none : new t ≡ None = ap new same ∙ changes.changed in absurd (cc)
            | inr differs ↦
                let before : Contains es (entry t z) = index.complete t z (sym (changes.others t differs) ∙ found) in
                elim (Contains-append_cases (take i es) (e ∷ drop (suc i) es) (entry t z) (subst (λ xs. Contains xs (entry t z)) cut before)) [
                  | inl front ↦ Contains-append_left (take i es) (drop (suc i) es) (entry t z) front
                  | inr rest ↦ elim (Contains-cases e (entry t z) (drop (suc i) es) rest) [
                    | inl is ↦ absurd (differs (sym (slot_entry t z) ∙ ap slot_of (sym is) ∙ own))
                    | inr back ↦ Contains-append_right (take i es) (drop (suc i) es) (entry t z) back
                  ]
                ]
          ]

          pub index-take : IsIndex slot_of entry new (remove es i)
          index-take =
              record {
                sound = all_joined (Names slot_of entry new) (take i es) (drop (suc i) es) (sound-apart table new s None changes (take i es) low_apart sides.0) (sound-apart table new s None changes (drop (suc i) es) high_apart sides.1.1);
                complete = take-contains;
              }

          pub listed-remove : listed new (remove es i) ≡ remove (listed table es) i
          listed-remove =
              listed-join new (take i es) (drop (suc i) es)
              ∙ ap (λ xs. xs ++ listed new (drop (suc i) es)) (listed-apart table new s None changes (take i es) low_apart ∙ sym (listed-take table es i index.sound))
              ∙ ap (λ xs. take i (listed table es) ++ xs) (listed-apart table new s None changes (drop (suc i) es) high_apart ∙ sym (listed-drop table es (suc i) index.sound))

        -- ---- something else comes in its place, whose entry is the same
        module _ (new : ℕ → Option Y) (z : Y) (changes : Changes table new s (Some z)) (alike : entry s z ≡ entry s y) where
          swap-contains : (t : ℕ) (x : Y) → new t ≡ Some x → Contains es (entry t x)
          swap-contains t x found = elim (cases_eq t s) [
            | inl same ↦
                let is : x ≡ z = some_is (sym found ∙ ap new same ∙ changes.changed) in
                let known : entry s y ≡ entry t x = sym alike ∙ (λ k. entry (sym same k) (sym is k)) in
                subst (λ w. Contains es w) known (index.complete s y there)
            | inr differs ↦ index.complete t x (sym (changes.others t differs) ∙ found)
          ]

          pub index-swap : IsIndex slot_of entry new es
          index-swap =
              record {
                sound = subst (Sound new) (sym cut) (all_joined (Names slot_of entry new) (take i es) (e ∷ drop (suc i) es)
                    (sound-apart table new s (Some z) changes (take i es) low_apart sides.0)
                    (record { value = z; there = ap new own ∙ changes.changed; is = entry_is ∙ sym alike ∙ ap (λ t. entry t z) (sym own) }, sound-apart table new s (Some z) changes (drop (suc i) es) high_apart sides.1.1));
                complete = swap-contains;
              }

          pub listed-swap : listed new es ≡ take i (listed table es) ++ z ∷ drop (suc i) (listed table es)
          listed-swap =
              ap (listed new) cut
              ∙ listed-around new (take i es) (drop (suc i) es) e z (ap new own ∙ changes.changed)
              ∙ ap (λ xs. xs ++ z ∷ listed new (drop (suc i) es)) (listed-apart table new s (Some z) changes (take i es) low_apart ∙ sym (listed-take table es i index.sound))
              ∙ ap (λ xs. take i (listed table es) ++ z ∷ xs) (listed-apart table new s (Some z) changes (drop (suc i) es) high_apart ∙ sym (listed-drop table es (suc i) index.sound))

    -- ---- searches
    module _ (table : ℕ → Option Y) (target : R) (order : E → Ordering) (agrees : (e : E) (y : Y) → table (slot_of e) ≡ Some y → e ≡ entry (slot_of e) y → order e ≡ cmp (seen y).key target) where
      agrees-at : (e : E) (names : Names slot_of entry table e) → order e ≡ cmp (seen names.value).key target
      agrees-at e names = agrees e names.value names.there names.is

      turn : (j k : R) (o : Ordering) → cmp j k ≡ o → cmp k j ≡ ordering_reverse o
      turn j k o e = keys.total.antisymm k j ∙ ap ordering_reverse e

      -- of two keys that rise, the first is below the target or the second above it
      one_of : (j k : R) (o : Ordering) → cmp j target ≡ o → cmp j k ≡ Less → (cmp j target ≡ Less) ⊎ (cmp k target ≡ Greater)
      one_of j k Less e less = inl e
      one_of j k Equal e less = inr (ap (λ t. cmp k t) (sym (keys.exact j target e)) ∙ turn j k Less less)
      one_of j k Greater e less = inr (turn target k Less (keys.total.trans target j k (turn j target Greater e) less))

      rising-from : (x : E) (y : Y) → order x ≡ cmp (seen y).key target → (es : List E) → Sound table es → AreAbove seen cmp (seen y).key (listed table es) → AllByRecursion (λ z. (order x ≡ Less) ⊎ (order z ≡ Greater)) es
      rising-from x y known [] sound above = tt
      rising-from x y known (e ∷ es) sound above =
          let all = subst (AreAbove seen cmp (seen y).key) (listed-more table e es sound.0.value sound.0.there) above in (
            elim (one_of (seen y).key (seen sound.0.value).key (cmp (seen y).key target) refl all.0) [
              | inl less ↦ inl (known ∙ less)
              | inr more ↦ inr (agrees-at e sound.0 ∙ more)
            ],
            rising-from x y known es sound.1 all.1,
          )

      pub rising : (es : List E) → Sound table es → IsMap seen cmp (listed table es) → AllPairs (λ x z. (order x ≡ Less) ⊎ (order z ≡ Greater)) es
      rising [] sound map = λ i j d less within. absurd (omega arith)
      rising (e ∷ es) sound map =
          let parts = subst (IsMap seen cmp) (listed-more table e es sound.0.value sound.0.there) map in
          AllPairs-cons (λ x z. (order x ≡ Less) ⊎ (order z ≡ Greater)) e es
          (All-from_recursion (λ z. (order e ≡ Less) ⊎ (order z ≡ Greater)) es (rising-from e sound.0.value (agrees-at e sound.0) es sound.1 parts.0))
          (rising es sound.1 parts.1)

      below-all : (es : List E) → Sound table es → AllByRecursion (λ e. order e ≡ Less) es → AreBelow seen cmp target (listed table es)
      below-all [] sound all = tt
      below-all (e ∷ es) sound all = subst (AreBelow seen cmp target) (sym (listed-more table e es sound.0.value sound.0.there)) (sym (agrees-at e sound.0) ∙ all.0, below-all es sound.1 all.1)

      above-all : (es : List E) → Sound table es → AllByRecursion (λ e. order e ≡ Greater) es → AreAbove seen cmp target (listed table es)
      above-all [] sound all = tt
      above-all (e ∷ es) sound all = subst (AreAbove seen cmp target) (sym (listed-more table e es sound.0.value sound.0.there)) (turn (seen sound.0.value).key target Greater (sym (agrees-at e sound.0) ∙ all.0), above-all es sound.1 all.1)

      -- a search that ends at a gap ends at the gap for the target
      pub missed : (es : List E) (i : ℕ) → Sound table es → i ≤ length es → All (λ e. order e ≡ Less) (take i es) → All (λ e. order e ≡ Greater) (drop i es) → IsGapFor seen cmp (listed table es) target i
      missed es i sound within before behind =
          let halves = both_parts (Names slot_of entry table) (take i es) (drop i es) (subst (Sound table) (sym (take-append-drop i es)) sound) in
          let long = listed-length table es sound in
          record {
            in_range = omega arith;
            below = subst (All (λ v. cmp (seen v).key target ≡ Less)) (sym (listed-take table es i sound)) (All-from_recursion (λ v. cmp (seen v).key target ≡ Less) (listed table (take i es)) (below-all (take i es) halves.0 (recursion_from_All (λ e. order e ≡ Less) (take i es) before)));
            above = subst (All (λ v. cmp target (seen v).key ≡ Less)) (sym (listed-drop table es i sound)) (All-from_recursion (λ v. cmp target (seen v).key ≡ Less) (listed table (drop i es)) (above-all (drop i es) halves.1 (recursion_from_All (λ e. order e ≡ Greater) (drop i es) behind)));
          }

      -- one that ends at an entry ends at the target's place
      pub met : (es : List E) (i : ℕ) (e : E) → Sound table es → i < length es → e ≡ get_or es i e → order e ≡ Equal → IsPlaceOf seen cmp (listed table es) target i
      met es i e sound within at tie =
          let names = sound-at table es i e sound within (sym at) in
          let here = listed-at table es i e names.value sound within (sym at) names.there in
          let long = listed-length table es sound in
          let key : (seen names.value).key ≡ target = keys.exact (seen names.value).key target (sym (agrees-at e names) ∙ tie) in
          let in_range : i < length (listed table es) = omega arith in
          record { in_range = in_range; here = λ d. ap (λ v. (seen v).key) (get_or_default (listed table es) i d names.value in_range ∙ here) ∙ key }

    -- the entry of what the table has in a slot is met, and at no other place
    module _ (table : ℕ → Option Y) (s : ℕ) (y : Y) (there : table s ≡ Some y) (es : List E) (index : IsIndex slot_of entry table es) (order_of_map : IsMap seen cmp (listed table es)) (order : E → Ordering) (agrees : (e : E) (z : Y) → table (slot_of e) ≡ Some z → e ≡ entry (slot_of e) z → order e ≡ cmp (seen z).key (seen y).key) (i : ℕ) where
      own_tie : order (entry s y) ≡ Equal
      own_tie = let own = names-own table s y there in agrees (entry s y) own.value own.there own.is ∙ ap (λ z. cmp (seen z).key (seen y).key) (some_is (sym own.there ∙ ap table (slot_entry s y) ∙ there)) ∙ tied_itself keys.total (seen y).key

      pub never-missed : All (λ e. order e ≡ Less) (take i es) → All (λ e. order e ≡ Greater) (drop i es) → ⊥
      never-missed before behind =
          elim (Contains-append_cases (take i es) (drop i es) (entry s y) (subst (λ xs. Contains xs (entry s y)) (sym (take-append-drop i es)) (index.complete s y there))) [
            | inl front ↦ let less = All-contains (λ e. order e ≡ Less) (take i es) (entry s y) before front in let tie = own_tie in cc
            | inr back ↦ let more = All-contains (λ e. order e ≡ Greater) (drop i es) (entry s y) behind back in let tie = own_tie in cc
          ]

      pub met-own : i < length es → HoldsAt (λ e. order e ≡ Equal) es i → HoldsAt (λ e. slot_of e ≡ s) es i
      met-own within ties d =
          let e = get_or es i d in
          let at : e ≡ get_or es i e = get_or_default es i d e within in
          let side = (sides table s y there es index order_of_map i e within at).1.0 in
          same-slot table s y there es index order_of_map i e within at (keys.exact (seen side.value).key (seen y).key (sym (agrees e side.value side.there side.is) ∙ ties d))

    -- ---- the order
    gap-between : (map : List Y) (k : R) (i : ℕ) → IsGapFor seen cmp map k i → IsBetween seen cmp k (take i map) (drop i map)
    gap-between map k i gap =
        record {
          below = recursion_from_All (λ w. cmp (seen w).key k ≡ Less) (take i map) gap.below;
          above = recursion_from_All (λ w. cmp k (seen w).key ≡ Less) (drop i map) gap.above;
        }

    -- what goes into its gap leaves the keys rising, and so does what is taken out
    pub order-put : (map : List Y) (w : Y) (i : ℕ) → IsMap seen cmp map → IsGapFor seen cmp map (seen w).key i → IsMap seen cmp (insert map i w)
    order-put map w i order gap = IsMap-insert seen cmp keys w (take i map) (drop i map) (subst (IsMap seen cmp) (sym (take-append-drop i map)) order) (gap-between map (seen w).key i gap)

    pub order-take : (map : List Y) (i : ℕ) (d : Y) → i < length map → IsMap seen cmp map → IsMap seen cmp (remove map i)
    order-take map i d within order =
        let w = get_or map i d in
        (IsMap-without seen cmp keys w (take i map) (drop (suc i) map) (subst (IsMap seen cmp) (cut_at map i w within (get_or_default map i d w within)) order)).0

    pub order-set : (map : List Y) (i : ℕ) (w : Y) (d : Y) → i < length map → (seen (get_or map i d)).key ≡ (seen w).key → IsMap seen cmp map → IsMap seen cmp (take i map ++ w ∷ drop (suc i) map)
    order-set map i w d within key order =
        let v = get_or map i d in
        let parts = IsMap-without seen cmp keys v (take i map) (drop (suc i) map) (subst (IsMap seen cmp) (cut_at map i v within (get_or_default map i d v within)) order) in
        IsMap-insert seen cmp keys w (take i map) (drop (suc i) map) parts.0 (subst (λ k. IsBetween seen cmp k (take i map) (drop (suc i) map)) key parts.1)
