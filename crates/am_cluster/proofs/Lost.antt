-- The search for a frame in flight, and a cluster after one was lost.
use Rattle.std.proofs.Common.{◌≡◌, inl, inr, ℕ, ◌<◌, ◌≤◌, zero, suc, List, [], ◌∷◌, ◌++◌, Some, None, Result, Ok, Err, sym, ap, ◌∙◌, subst, slice_get, length, get_or, take, drop, arith}
use Rattle.std.specs.Prelude.{Contains, MatchOption}
use Rattle.std.specs.List.{AllByRecursion}
use Rattle.std.specs.List.Sorted.{IsSearchInRange, IsBinarySearchResult, IsNonDecreasingBy}
use Rattle.std.specs.Ordering.{nat_cmp, ordering_index}
use Rattle.std.specs.Result.{result_ok}
use Rattle.std.proofs.lemmas.Bool.Decides.{nat_tests}
use Rattle.std.proofs.lemmas.Cmp.{ranked}
use Rattle.std.proofs.lemmas.Bool.{cases_lt}
use Rattle.std.proofs.lemmas.List.Sorted.{Contains-permutation, IsNonDecreasingBy-from_default, IsPermutation-middle, IsPermutation-sym}
use Rattle.std.proofs.lemmas.Option.{slice_get_cases}
use Rattle.am_cluster.specs.declared.flight.Flight.{Flight}
use Rattle.am_cluster.specs.Losing.{IsNoNumber, IsNumberedAt, HasLost}
use Rattle.am_cluster.specs.Ties.{AreAscending, IsWorld}
use Rattle.am_cluster.specs.Worlds.{World}
use Rattle.am_cluster.proofs.Places.{some_is}

-- a number that is below all is below each
below_each : (n : ℕ) (flights : List Flight) (k : ℕ) (d : Flight) → AllByRecursion (λ other. n < other.number) flights → k < length flights → n < (get_or flights k d).number
below_each n [] k d are less = absurd (omega arith)
below_each n (f ∷ flights) zero d are less = are.0
below_each n (f ∷ flights) (suc k) d are less = below_each n flights k d are.1 (omega arith)

-- the numbers rise by the places
numbers_rise : (flights : List Flight) (i j : ℕ) (d : Flight) → AreAscending flights → i ≤ j → j < length flights → (get_or flights i d).number ≤ (get_or flights j d).number
numbers_rise [] i j d are le less = absurd (omega arith)
numbers_rise (f ∷ flights) zero zero d are le less = omega arith
numbers_rise (f ∷ flights) zero (suc j) d are le less = let below = below_each f.number flights j d are.0 (omega arith) in omega (arith, below)
numbers_rise (f ∷ flights) (suc i) zero d are le less = absurd (omega arith)
numbers_rise (f ∷ flights) (suc i) (suc j) d are le less = numbers_rise flights i j d are.1 (omega arith) (omega arith)

module _ (flights : List Flight) (are : AreAscending flights) (number : ℕ) where
  -- the comparisons with a number rise too, as a binary search asks
  comparisons_rise : (d : Flight) → IsNonDecreasingBy (λ f. ordering_index (nat_cmp f.number number)) flights
  comparisons_rise d = IsNonDecreasingBy-from_default (λ f. ordering_index (nat_cmp f.number number)) flights d (λ i j le less.
      let rise = numbers_rise flights i j d are le less in grind (arith, nat_tests, rise))

  not_there : (at : ℕ) → IsBinarySearchResult (λ f. nat_cmp f.number number) flights (Err at) → IsNoNumber flights number
  not_there at parted flight there same =
      let point = parted (comparisons_rise flight) in
      let here : (get_or flights there.0 flight).number ≡ number = ap (λ f. f.number) there.2 ∙ same in
      elim (cases_lt there.0 at) [
        | inl before ↦ let less = ranked (get_or flights there.0 flight).number number _ (sym (point.0 there.0 flight (omega arith) before)) in absurd (omega (arith, less, here))
        | inr behind ↦ let more = ranked (get_or flights there.0 flight).number number _ (sym (point.1 there.0 flight behind there.1)) in absurd (omega (arith, more, here))
      ]

  there_at : (at : ℕ) → at < length flights → IsBinarySearchResult (λ f. nat_cmp f.number number) flights (Ok at) → IsNumberedAt flights number at
  there_at at within equal = elim ((slice_get_cases flights at).1) [
    | inl is ↦ record { flight = is.0; place = is.2; bears = sym (ap (λ f. f.number) is.3) ∙ ranked (get_or flights at is.0).number number _ (sym (equal is.0)) }
    | inr past ↦ absurd (omega (arith, past.0))
  ]

  -- what the search for a number finds
  pub searched : (r : Result ℕ ℕ) → IsSearchInRange r (length flights) → IsBinarySearchResult (λ f. nat_cmp f.number number) flights r → MatchOption (result_ok r) (IsNoNumber flights number) (IsNumberedAt flights number)
  searched (Ok at) within is = there_at at within is
  searched (Err at) within is = not_there at is

-- a list is parted by what stands at a place of it
pub parted_at : {A : Type 0} (xs : List A) (i : ℕ) (x : A) → slice_get xs i ≡ Some x → xs ≡ take i xs ++ x ∷ drop (suc i) xs
parted_at [] i x e = absurd cc
parted_at (y ∷ xs) zero x e = ap (λ z. z ∷ xs) (some_is y x e)
parted_at (y ∷ xs) (suc i) x e = ap (λ zs. y ∷ zs) (parted_at xs i x e)

below_others : (n : ℕ) (before : List Flight) (f : Flight) (after : List Flight) → AllByRecursion (λ other. n < other.number) (before ++ f ∷ after) → AllByRecursion (λ other. n < other.number) (before ++ after)
below_others n [] f after all = all.1
below_others n (g ∷ before) f after all = (all.0, below_others n before f after all.1)

-- the numbers of the others still ascend
others_ascend : (before : List Flight) (f : Flight) (after : List Flight) → AreAscending (before ++ f ∷ after) → AreAscending (before ++ after)
others_ascend [] f after are = are.1
others_ascend (g ∷ before) f after are = (below_others g.number before f after are.0, others_ascend before f after are.1)

-- each of the others is one that flew
flew_before : (before : List Flight) (f : Flight) (after : List Flight) (x : Flight) → Contains (before ++ after) x → Contains (before ++ f ∷ after) x
flew_before before f after x there =
    Contains-permutation (f ∷ (before ++ after)) (before ++ f ∷ after) x (IsPermutation-sym _ _ (IsPermutation-middle before f after)) (suc there.0, omega (arith, there.1), there.2)

module _ (w : World) (is : IsWorld w) (before : List Flight) (f : Flight) (after : List Flight) (parts : w.flights ≡ before ++ f ∷ after) where
  abbrev pub rest : World
  rest = record w { flights = before ++ after }

  pub world_lost : IsWorld rest
  world_lost = record {
    members = λ q replica there. let m = is.members q replica there in record { silences = m.silences; log = m.log; place = m.place; members = m.members; names = m.names; unknown = m.unknown; whole = m.whole; saved_whole = m.saved_whole };
    flights = λ flight there. let one = is.flights flight (subst (λ fs. Contains fs flight) (sym parts) (flew_before before f after flight there)) in record {
      index = one.index;
      number = one.number;
      handed = one.handed;
      silences = one.silences;
      log = one.log;
      sound = one.sound;
      addressee = one.addressee;
      sender = one.sender;
      other = one.other;
    };
    numbers = others_ascend before f after (subst AreAscending parts is.numbers);
  }

-- the frame at a place is lost
module _ (w : World) (number index : ℕ) (fs : List Flight) (at : IsNumberedAt w.flights number index) (left : fs ≡ take index w.flights ++ drop (suc index) w.flights) where
  pub world_left : IsWorld w → IsWorld (record w { flights = fs })
  world_left is = subst (λ x. IsWorld (record w { flights = x })) (sym left) (world_lost w is (take index w.flights) at.flight (drop (suc index) w.flights) (parted_at w.flights index at.flight at.place))

  pub has_lost : (v : World) → w ≡ v → HasLost v number (record w { flights = fs })
  has_lost v same = subst (λ u. HasLost u number (record w { flights = fs })) same (record {
    before = take index w.flights;
    flight = at.flight;
    after = drop (suc index) w.flights;
    flights = parted_at w.flights index at.flight at.place;
    bears = at.bears;
    world = ap (λ x. let u : World = record w { flights = x } in u) left;
  })

pub place_within : (flights : List Flight) (number index : ℕ) → IsNumberedAt flights number index → index < length flights
place_within flights number index at = elim ((slice_get_cases flights index).1) [
  | inl is ↦ is.1
  | inr past ↦ absurd (no (sym past.1 ∙ at.place))
] where
  no : None ≡ Some at.flight → ⊥
  no e = cc
