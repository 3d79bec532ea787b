-- The work on one link after the other, by one more.
use Rattle.std.proofs.Common.{◌≡◌, ◌∙◌, ℕ, zero, suc, get_or, Bool, true, false, if◌then◌else◌, List, [], ◌∷◌, ◌++◌, Option, None, IsSome, refl, sym, subst, inl, inr}
use Rattle.std.proofs.lemmas.Bool.{false≢true}
use Rattle.std.specs.Prelude.{IfSome}
use Rattle.am_reactor.specs.declared.fault.LinkFault.{LinkFault}
use Rattle.am_reactor.specs.declared.link.Link.{Link}
use Rattle.am_reactor.specs.declared.links.Links.{Links}
use Rattle.am_reactor.specs.Links.{HearsOn, IsMoved, KeepsLinks, Moves, link_to}
use Rattle.am_reactor.specs.SendBuffer.{Empties}
use Rattle.am_reactor.specs.Streams.{Arrival}

module _ {S C : Type 0} (arrived : C → Arrival) (gone : C → List ℕ) (loses : S → ℕ → LinkFault → S → Type 0) (gives : S → ℕ → List ℕ → Option (List ℕ) → S → Type 0) where
  -- what was heard of a link that is the same
  heard_by : (peer : ℕ) (was is : Option (Link C)) (mid : Links C) → was ≡ is
      → IfSome was (λ before. IfSome (link_to mid peer) (HearsOn arrived gone mid.awaited before))
      → IfSome is (λ before. IfSome (link_to mid peer) (HearsOn arrived gone mid.awaited before))
  heard_by peer was is mid e heard = subst (λ (o : Option (Link C)). IfSome o (λ before. IfSome (link_to mid peer) (HearsOn arrived gone mid.awaited before))) e heard

  -- what the links are matters by the one to the peer alone
  same_moved : (peer : ℕ) (s : S) (l n : Links C) (s' : S) (l' : Links C) → link_to n peer ≡ link_to l peer → IsMoved arrived gone loses gives peer s n s' l' → IsMoved arrived gone loses gives peer s l s' l'
  same_moved peer s l n s' l' e (inl none) = inl (sym e ∙ none.0, none.1, none.2)
  same_moved peer s l n s' l' e (inr (inl pushed)) = inr (inl (
    subst (λ (o : Option (Link C)). IsSome o) e pushed.0,
    record {
      mid = pushed.1.mid;
      open_ = pushed.1.open_;
      went = subst (λ (o : Option (Link C)). IfSome o (λ before. IfSome (link_to pushed.1.mid peer)
          (λ after. Empties (gone before.stream) (gone after.stream) before.buffer after.buffer))) e pushed.1.went;
      next = elim pushed.1.next [
        | inl on ↦ inl (on.0, on.1, heard_by peer (link_to n peer) (link_to l peer) pushed.1.mid e on.2)
        | inr q ↦ elim q [
          | inl more ↦ inr (inl (more.0, heard_by peer (link_to n peer) (link_to l peer) pushed.1.mid e more.1, more.2, more.3))
          | inr lost ↦ inr (inr lost)
        ]
      ];
    },
  ))
  same_moved peer s l n s' l' e (inr (inr lost)) = inr (inr lost)

  moves_on : (peers : List ℕ) (peer : ℕ) (s : S) (l : Links C) (m : S) (n k : Links C) (s' : S) (l' : Links C) → Moves arrived gone loses gives peers s l m n
      → ((other : ℕ) → link_to k other ≡ link_to n other) → KeepsLinks peer k l' → IsMoved arrived gone loses gives peer m k s' l' → Moves arrived gone loses gives (peers ++ peer ∷ []) s l s' l'
  moves_on [] peer s l m n k s' l' none e others moved = (
    s',
    l',
    λ other ne. others other ne ∙ (e other ∙ none.1 other),
    subst (λ (x : S). IsMoved arrived gone loses gives peer x l s' l') none.0 (same_moved peer m l k s' l' (e peer ∙ none.1 peer) moved),
    (refl, λ _. refl),
  )
  moves_on (first ∷ peers) peer s l m n k s' l' moves e others moved =
      (moves.0, moves.1, moves.2, moves.3, moves_on peers peer moves.0 moves.1 m n k s' l' moves.4 e others moved)

  -- nothing is done yet
  pub moves_none : (s : S) (l : Links C) → (peers : List ℕ) × Moves arrived gone loses gives peers s l s l
  moves_none s l = ([], (refl, λ _. refl))

  -- one link more
  pub moves_more : (peer : ℕ) (s : S) (l : Links C) (m : S) (n k : Links C) (s' : S) (l' : Links C) → ((peers : List ℕ) × Moves arrived gone loses gives peers s l m n)
      → ((other : ℕ) → link_to k other ≡ link_to n other) → KeepsLinks peer k l' → IsMoved arrived gone loses gives peer m k s' l' → (peers : List ℕ) × Moves arrived gone loses gives peers s l s' l'
  moves_more peer s l m n k s' l' moves e others moved = (moves.0 ++ peer ∷ [], moves_on moves.0 peer s l m n k s' l' moves.1 e others moved)

-- nothing stands anywhere, nor with one more nothing behind it
none_more : {X : Type 0} (xs : List (Option X)) → ((i : ℕ) → get_or xs i None ≡ None) → (i : ℕ) → get_or (xs ++ None ∷ []) i None ≡ None
none_more [] none zero = refl
none_more [] none (suc i) = refl
none_more (x ∷ xs) none zero = none 0
none_more (x ∷ xs) none (suc i) = none_more xs (λ j. none (suc j)) i

pub none_if_more : {X : Type 0} (more : Bool) (xs : List (Option X)) → ((i : ℕ) → get_or xs i None ≡ None) → (i : ℕ)
    → get_or (if more then xs ++ None ∷ [] else xs) i None ≡ None
none_if_more true xs none i = none_more xs none i
none_if_more false xs none i = none i

-- an item is there that is some
pub not_none : {T : Type 0} (items : List (Option T)) (place : ℕ) (item : Option T) → item ≡ get_or items place item → item ≡ None → IsSome (get_or items place None) → ⊥
not_none items place item is none some = false≢true (subst (λ o. IsSome o) (sym (subst (λ o. o ≡ get_or items place o) none is)) some)
