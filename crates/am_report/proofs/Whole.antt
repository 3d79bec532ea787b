-- The versions that are placed one after the other are all that are held, each once, greatest first.
use Rattle.std.proofs.Common.{◌≡◌, Bool, true, false, cond, List, [], ◌∷◌, Option, Some, None, refl, sym, ap, ◌∙◌, subst, inl, inr, arith}
use Rattle.std.specs.Prelude.{AllPairs, Contains, fold}
use Rattle.std.specs.List.{AllByRecursion}
use Rattle.std.proofs.lemmas.List.Elements.{All-from_recursion, recursion_from_All, All-contains_itself}
use Rattle.std.proofs.lemmas.List.Kept.{AllPairs-cons}
use Rattle.std.specs.declared.cmp.Ordering.{Ordering}
use Rattle.std.specs.declared.cmp.Ordering.TheVariants.{Less, Equal, Greater}
use Rattle.std.specs.Ordering.{is_lt, is_eq, ordering_reverse}
use Rattle.std.proofs.lemmas.Cmp.{tied_itself}
use Rattle.am_version_order.specs.Versions.{Version, rank_cmp, is_below}
use Rattle.am_version_order.proofs.Ranks.{rank_total}
use Rattle.am_report.specs.Sources.{Holding}
use Rattle.am_report.specs.Differences.{is_same}
use Rattle.am_report.specs.Groups.{AreRanked}
use Rattle.am_report.proofs.Agreeing.{first_or, among_first, among_rest}
use Rattle.am_report.specs.Ranked.{placed, ranked_with, ranked}
use Rattle.am_report.proofs.Placing.{IsDown, all_placed, ranked_down}

module _ {K X : Type 0} (seen : X → Version K) where
  -- ---- in order

  abbrev IsAbove : X → X → Type 0
  IsAbove one other = is_below (seen other) (seen one) ≡ true

  in_pairs : (versions : List X) → IsDown seen versions → AllPairs IsAbove versions
  in_pairs [] down = λ i j d less within. absurd (omega (arith, within))
  in_pairs (v ∷ rest) down = AllPairs-cons IsAbove v rest (All-from_recursion (IsAbove v) rest down.0) (in_pairs rest down.1)

  -- ---- only what is held

  module _ (all : List (Holding X)) where
    abbrev IsHeld : X → Type 0
    IsHeld v = (holding : Holding X) × Contains all holding × (holding.here ≡ Some v)

    held_with : (versions : List X) (holding : Holding X) (here : Option X) → holding.here ≡ here → Contains all holding → AllByRecursion IsHeld versions
        → AllByRecursion IsHeld (ranked_with seen versions here)
    held_with versions holding None is among so_far = so_far
    held_with versions holding (Some v) is among so_far = all_placed seen IsHeld v versions (holding, among, is) so_far

    held_over : (versions : List X) (holdings : List (Holding X)) → AllByRecursion (Contains all) holdings → AllByRecursion IsHeld versions
        → AllByRecursion IsHeld (fold (λ vs holding. ranked_with seen vs holding.here) versions holdings)
    held_over versions [] among so_far = so_far
    held_over versions (holding ∷ holdings) among so_far =
        held_over (ranked_with seen versions holding.here) holdings among.1 (held_with versions holding holding.here refl among.0 so_far)

  -- ---- and all of it

  abbrev Ties : List X → X → Type 0
  Ties versions v = (w : X) × Contains versions w × (is_same seen (Some v) (Some w) ≡ true)

  tied_by : (v w : X) (r : Ordering) → rank_cmp (seen v) (seen w) ≡ r → is_below (seen v) (seen w) ≡ false → is_below (seen w) (seen v) ≡ false → is_eq r ≡ true
  unfolding is_below
  tied_by v w Less e up down = let less = ap is_lt e in absurd cc
  tied_by v w Equal e up down = refl
  tied_by v w Greater e up down =
      let less : is_lt (rank_cmp (seen w) (seen v)) ≡ true = ap is_lt (rank_total.antisymm (seen w) (seen v) ∙ ap ordering_reverse e) in
      absurd cc

  tied : (v w : X) → is_below (seen v) (seen w) ≡ false → is_below (seen w) (seen v) ≡ false → is_same seen (Some v) (Some w) ≡ true
  tied v w up down = tied_by v w (rank_cmp (seen v) (seen w)) refl up down

  itself : (v : X) → is_same seen (Some v) (Some v) ≡ true
  itself v = ap is_eq (tied_itself rank_total (seen v))

  further : (x v : X) (versions : List X) → Ties versions v → Ties (x ∷ versions) v
  further x v versions ties = (ties.0, among_rest x ties.0 versions ties.1, ties.2)

  has_by : (v w : X) (rest : List X) (t u : Bool) → is_below (seen w) (seen v) ≡ t → is_below (seen v) (seen w) ≡ u → Ties (placed seen v rest) v
      → Ties (cond t (v ∷ w ∷ rest) (cond u (w ∷ placed seen v rest) (w ∷ rest))) v
  has_by v w rest true u under over later = (v, among_first v (w ∷ rest), itself v)
  has_by v w rest false true under over later = further w v (placed seen v rest) later
  has_by v w rest false false under over later = (w, among_first w rest, tied v w over under)

  placed_has : (v : X) (versions : List X) → Ties (placed seen v versions) v
  placed_has v [] = (v, among_first v [], itself v)
  placed_has v (w ∷ rest) = has_by v w rest (is_below (seen w) (seen v)) (is_below (seen v) (seen w)) refl refl (placed_has v rest)

  keeps_by : (v w x : X) (rest : List X) (t u : Bool) → Contains (w ∷ rest) x → (Contains rest x → Contains (placed seen v rest) x)
      → Contains (cond t (v ∷ w ∷ rest) (cond u (w ∷ placed seen v rest) (w ∷ rest))) x
  keeps_by v w x rest true u among later = among_rest v x (w ∷ rest) among
  keeps_by v w x rest false true among later =
      elim (first_or w x rest among) [
        | inl is ↦ subst (λ y. Contains (w ∷ placed seen v rest) y) is (among_first w (placed seen v rest))
        | inr behind ↦ among_rest w x (placed seen v rest) (later behind)
      ]
  keeps_by v w x rest false false among later = among

  placed_keeps : (v x : X) (versions : List X) → Contains versions x → Contains (placed seen v versions) x
  placed_keeps v x [] among = among_rest v x [] among
  placed_keeps v x (w ∷ rest) among =
      keeps_by v w x rest (is_below (seen w) (seen v)) (is_below (seen v) (seen w)) among (λ behind. placed_keeps v x rest behind)

  with_keeps : (versions : List X) (here : Option X) (v : X) → Ties versions v → Ties (ranked_with seen versions here) v
  with_keeps versions None v ties = ties
  with_keeps versions (Some x) v ties = (ties.0, placed_keeps x ties.0 versions ties.1, ties.2)

  with_has : (versions : List X) (here : Option X) (v : X) → here ≡ Some v → Ties (ranked_with seen versions here) v
  with_has versions here v is = subst (λ o. Ties (ranked_with seen versions o) v) (sym is) (placed_has v versions)

  over_keeps : (versions : List X) (holdings : List (Holding X)) (v : X) → Ties versions v → Ties (fold (λ vs holding. ranked_with seen vs holding.here) versions holdings) v
  over_keeps versions [] v ties = ties
  over_keeps versions (holding ∷ holdings) v ties = over_keeps (ranked_with seen versions holding.here) holdings v (with_keeps versions holding.here v ties)

  no_element : {Y : Type 0} (y : Y) (P : Type 0) → Contains [] y → P
  no_element y P among = let less = among.1 in absurd (omega (arith, less))

  whole_over : (versions : List X) (holdings : List (Holding X)) (holding : Holding X) (v : X) → Contains holdings holding → holding.here ≡ Some v
      → Ties (fold (λ vs h. ranked_with seen vs h.here) versions holdings) v
  whole_over versions [] holding v among is = no_element holding (Ties versions v) among
  whole_over versions (first ∷ holdings) holding v among is =
      elim (first_or first holding holdings among) [
        | inl same ↦
            over_keeps (ranked_with seen versions first.here) holdings v (with_has versions first.here v (ap (λ (h : Holding X). h.here) same ∙ is))
        | inr later ↦ whole_over (ranked_with seen versions first.here) holdings holding v later is
      ]

  pub are_ranked : (holdings : List (Holding X)) → AreRanked seen holdings (ranked seen holdings)
  unfolding ranked
  are_ranked holdings = record {
    order = in_pairs (ranked seen holdings) (ranked_down seen holdings);
    held = All-from_recursion (IsHeld holdings) (ranked seen holdings)
        (held_over holdings [] holdings (recursion_from_All (Contains holdings) holdings (All-contains_itself holdings)) tt);
    whole = λ holding v among is. whole_over [] holdings holding v among is;
  }
