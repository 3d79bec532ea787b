-- Versions that are placed among others, greatest first: what is the greatest of them within a bound, and what comes next.
use Rattle.std.proofs.Common.{◌≡◌, Bool, true, false, cond, List, [], ◌∷◌, ◌++◌, Option, Some, None, drop, refl, sym, ap, ◌∙◌, subst}
use Rattle.std.specs.Prelude.{fold}
use Rattle.std.specs.List.{AllByRecursion}
use Rattle.am_version_order.specs.Versions.{Version, is_below}
use Rattle.am_version_order.proofs.Ranks.{below_itself, below_past, below_trans}
use Rattle.am_merge.specs.Maps.{greater_of}
use Rattle.am_merge.proofs.Keys.{both_parts, all_weaker}
use Rattle.am_merge.proofs.Puts.{greater_of-none}
use Rattle.am_report.specs.Sources.{Holding}
use Rattle.am_report.specs.Groups.{within, greatest_within}
use Rattle.am_report.specs.Walks.{head_of}
use Rattle.am_report.specs.Ranked.{placed, ranked_with, ranked}

module _ {K X : Type 0} (seen : X → Version K) where
  -- each version is above those behind it
  abbrev pub AreUnder : X → List X → Type 0
  AreUnder v versions = AllByRecursion (λ w. is_below (seen w) (seen v) ≡ true) versions

  abbrev pub IsDown : List X → Type 0
  IsDown [] = Unit {0}
  IsDown (v ∷ rest) = AreUnder v rest × IsDown rest

  -- ---- placing keeps the order

  all_by : (P : X → Type 0) (v w : X) (rest : List X) (t u : Bool) → P v → AllByRecursion P (w ∷ rest) → AllByRecursion P (placed seen v rest)
      → AllByRecursion P (cond t (v ∷ w ∷ rest) (cond u (w ∷ placed seen v rest) (w ∷ rest)))
  all_by P v w rest true u here all later = (here, all)
  all_by P v w rest false true here all later = (all.0, later)
  all_by P v w rest false false here all later = all

  pub all_placed : (P : X → Type 0) (v : X) (versions : List X) → P v → AllByRecursion P versions → AllByRecursion P (placed seen v versions)
  all_placed P v [] here all = (here, tt)
  all_placed P v (w ∷ rest) here all =
      all_by P v w rest (is_below (seen w) (seen v)) (is_below (seen v) (seen w)) here all (all_placed P v rest here all.1)

  down_by : (v w : X) (rest : List X) (t u : Bool) → is_below (seen w) (seen v) ≡ t → is_below (seen v) (seen w) ≡ u → IsDown (w ∷ rest) → IsDown (placed seen v rest)
      → IsDown (cond t (v ∷ w ∷ rest) (cond u (w ∷ placed seen v rest) (w ∷ rest)))
  down_by v w rest true u under over down later =
      let all = all_weaker (λ x. is_below (seen x) (seen w) ≡ true) (λ x. is_below (seen x) (seen v) ≡ true) (λ x less. below_trans (seen x) (seen w) (seen v) less under) rest down.0 in
      ((under, all), down)
  down_by v w rest false true under over down later = (all_placed (λ x. is_below (seen x) (seen w) ≡ true) v rest over down.0, later)
  down_by v w rest false false under over down later = down

  pub down_placed : (v : X) (versions : List X) → IsDown versions → IsDown (placed seen v versions)
  down_placed v [] down = (tt, tt)
  down_placed v (w ∷ rest) down =
      down_by v w rest (is_below (seen w) (seen v)) (is_below (seen v) (seen w)) refl refl down (down_placed v rest down.1)

  pub down_with : (versions : List X) (here : Option X) → IsDown versions → IsDown (ranked_with seen versions here)
  down_with versions None down = down
  down_with versions (Some v) down = down_placed v versions down

  down_over : (versions : List X) (holdings : List (Holding X)) → IsDown versions → IsDown (fold (λ all holding. ranked_with seen all holding.here) versions holdings)
  down_over versions [] down = down
  down_over versions (holding ∷ holdings) down = down_over (ranked_with seen versions holding.here) holdings (down_with versions holding.here down)

  pub ranked_down : (holdings : List (Holding X)) → IsDown (ranked seen holdings)
  unfolding ranked
  ranked_down holdings = down_over [] holdings tt

  -- ---- the first version within a bound

  abbrev is_within : Option X → X → Bool
  is_within None v = true
  is_within (Some above) v = is_below (seen v) (seen above)

  abbrev keep : Bool → X → Option X
  keep t v = cond t (Some v) None

  abbrev first_within : Option X → List X → Option X
  first_within bound [] = None
  first_within bound (v ∷ rest) = cond (is_within bound v) (Some v) (first_within bound rest)

  within_is : (bound : Option X) (v : X) → within seen bound (Some v) ≡ keep (is_within bound v) v
  within_is None v = refl
  within_is (Some above) v = refl

  within_none : (bound : Option X) → within seen bound None ≡ None
  within_none None = refl
  within_none (Some above) = refl

  one_of : (t : Bool) (v y : X) (o : Option X) → cond t (Some v) o ≡ Some y → (P : X → Type 0) → P v → (o ≡ Some y → P y) → P y
  one_of true v y o e P here later = subst P (let same : v ≡ y = cc in same) here
  one_of false v y o e P here later = later e

  first_has : (P : X → Type 0) (bound : Option X) (versions : List X) (y : X) → AllByRecursion P versions → first_within bound versions ≡ Some y → P y
  first_has P bound [] y all e = absurd cc
  first_has P bound (v ∷ rest) y all e = one_of (is_within bound v) v y (first_within bound rest) e P all.0 (λ is. first_has P bound rest y all.1 is)

  over_all : (v : X) (o : Option X) → ((y : X) → o ≡ Some y → is_below (seen y) (seen v) ≡ true) → Some v ≡ greater_of seen o (Some v)
  over_all v None under = refl
  over_all v (Some y) under = rw (under y refl) refl

  before : (v : X) (q : Bool) (o : Option X) → ((y : X) → o ≡ Some y → is_below (seen y) (seen v) ≡ true) → cond q (Some v) o ≡ greater_of seen o (keep q v)
  before v true o under = over_all v o under
  before v false o under = sym (greater_of-none seen o)

  behind : (v w : X) (p q : Bool) (o : Option X) → is_below (seen w) (seen v) ≡ false → cond p (Some w) (greater_of seen o (keep q v)) ≡ greater_of seen (cond p (Some w) o) (keep q v)
  behind v w true true o not_under = rw not_under refl
  behind v w true false o not_under = refl
  behind v w false q o not_under = refl

  beside : (v w : X) (p q : Bool) (o : Option X) → is_below (seen w) (seen v) ≡ false → (q ≡ true → p ≡ true) → cond p (Some w) o ≡ greater_of seen (cond p (Some w) o) (keep q v)
  beside v w true true o not_under both = rw not_under refl
  beside v w true false o not_under both = refl
  beside v w false true o not_under both = let never = both refl in absurd cc
  beside v w false false o not_under both = sym (greater_of-none seen o)

  tied_within : (bound : Option X) (v w : X) → is_below (seen v) (seen w) ≡ false → is_within bound v ≡ true → is_within bound w ≡ true
  tied_within None v w not_under inside = refl
  tied_within (Some above) v w not_under inside = below_past (seen v) (seen w) (seen above) not_under inside

  first_by : (bound : Option X) (v w : X) (rest : List X) (t u : Bool) → is_below (seen w) (seen v) ≡ t → is_below (seen v) (seen w) ≡ u → IsDown (w ∷ rest)
      → first_within bound (placed seen v rest) ≡ greater_of seen (first_within bound rest) (keep (is_within bound v) v)
      → first_within bound (cond t (v ∷ w ∷ rest) (cond u (w ∷ placed seen v rest) (w ∷ rest))) ≡ greater_of seen (first_within bound (w ∷ rest)) (keep (is_within bound v) v)
  first_by bound v w rest true u under over down later =
      before v (is_within bound v) (first_within bound (w ∷ rest))
      (λ y is. first_has (λ x. is_below (seen x) (seen v) ≡ true) bound (w ∷ rest) y
      (under, all_weaker (λ x. is_below (seen x) (seen w) ≡ true) (λ x. is_below (seen x) (seen v) ≡ true) (λ x less. below_trans (seen x) (seen w) (seen v) less under) rest down.0) is)
  first_by bound v w rest false true under over down later =
      ap (λ (o : Option X). cond (is_within bound w) (Some w) o) later ∙ behind v w (is_within bound w) (is_within bound v) (first_within bound rest) under
  first_by bound v w rest false false under over down later =
      beside v w (is_within bound w) (is_within bound v) (first_within bound rest) under (tied_within bound v w over)

  first_placed : (bound : Option X) (v : X) (versions : List X) → IsDown versions
      → first_within bound (placed seen v versions) ≡ greater_of seen (first_within bound versions) (keep (is_within bound v) v)
  first_placed bound v [] down = refl
  first_placed bound v (w ∷ rest) down =
      first_by bound v w rest (is_below (seen w) (seen v)) (is_below (seen v) (seen w)) refl refl down (first_placed bound v rest down.1)

  first_with : (bound : Option X) (versions : List X) (here : Option X) → IsDown versions
      → greater_of seen (first_within bound versions) (within seen bound here) ≡ first_within bound (ranked_with seen versions here)
  first_with bound versions None down = ap (greater_of seen (first_within bound versions)) (within_none bound) ∙ greater_of-none seen (first_within bound versions)
  first_with bound versions (Some v) down = ap (greater_of seen (first_within bound versions)) (within_is bound v) ∙ sym (first_placed bound v versions down)

  first_over : (bound : Option X) (versions : List X) (holdings : List (Holding X)) → IsDown versions
      → fold (λ best holding. greater_of seen best (within seen bound holding.here)) (first_within bound versions) holdings
      ≡ first_within bound (fold (λ all holding. ranked_with seen all holding.here) versions holdings)
  first_over bound versions [] down = refl
  first_over bound versions (holding ∷ holdings) down =
      ap (λ (o : Option X). fold (λ best h. greater_of seen best (within seen bound h.here)) o holdings) (first_with bound versions holding.here down)
      ∙ first_over bound (ranked_with seen versions holding.here) holdings (down_with versions holding.here down)

  first_is : (bound : Option X) (holdings : List (Holding X)) → greatest_within seen bound holdings ≡ first_within bound (ranked seen holdings)
  unfolding ranked
  first_is bound holdings = first_over bound [] holdings tt

  -- ---- the greatest is first

  first_of_all : (versions : List X) → first_within None versions ≡ head_of versions
  first_of_all [] = refl
  first_of_all (v ∷ rest) = refl

  pub greatest_first : (holdings : List (Holding X)) → greatest_within seen None holdings ≡ head_of (ranked seen holdings)
  greatest_first holdings = first_is None holdings ∙ first_of_all (ranked seen holdings)

  -- a list by its head
  pub from_head : (versions : List X) (v : X) → head_of versions ≡ Some v → versions ≡ v ∷ drop 1 versions
  from_head [] v e = absurd cc
  from_head (w ∷ rest) v e = let same : w ≡ v = cc in ap (λ x. x ∷ rest) same

  pub no_head : (versions : List X) → head_of versions ≡ None → versions ≡ []
  no_head [] e = refl
  no_head (w ∷ rest) e = absurd cc

  -- ---- and the greatest below another one comes next

  all_under : (v : X) (versions : List X) → AreUnder v versions → first_within (Some v) versions ≡ head_of versions
  all_under v [] under = refl
  all_under v (w ∷ rest) under = rw under.0 refl

  skipped : (t : Bool) (d : X) (o : Option X) → t ≡ false → cond t (Some d) o ≡ o
  skipped true d o e = absurd cc
  skipped false d o e = refl

  not_back_by : (v d : X) (t : Bool) → is_below (seen d) (seen v) ≡ t → is_below (seen v) (seen d) ≡ true → t ≡ false
  not_back_by v d true e under = let around = below_trans (seen d) (seen v) (seen d) e under in let itself = below_itself (seen d) in absurd cc
  not_back_by v d false e under = refl

  not_back : (v d : X) → is_below (seen v) (seen d) ≡ true → is_below (seen d) (seen v) ≡ false
  not_back v d under = not_back_by v d (is_below (seen d) (seen v)) refl under

  next_in : (done rest : List X) (v : X) → IsDown (done ++ v ∷ rest) → first_within (Some v) (done ++ v ∷ rest) ≡ head_of rest
  next_in [] rest v down = skipped (is_below (seen v) (seen v)) v (first_within (Some v) rest) (below_itself (seen v)) ∙ all_under v rest down.0
  next_in (d ∷ done) rest v down =
      let under = (both_parts (λ x. is_below (seen x) (seen d) ≡ true) done (v ∷ rest) down.0).1.0 in
      skipped (is_below (seen d) (seen v)) d (first_within (Some v) (done ++ v ∷ rest)) (not_back v d under) ∙ next_in done rest v down.1

  pub next_is : (holdings : List (Holding X)) (done rest : List X) (last : X) → ranked seen holdings ≡ done ++ last ∷ rest
      → greatest_within seen (Some last) holdings ≡ head_of rest
  next_is holdings done rest last is =
      first_is (Some last) holdings
      ∙ ap (first_within (Some last)) is
      ∙ next_in done rest last (subst IsDown is (ranked_down holdings))
