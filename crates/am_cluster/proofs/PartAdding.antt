-- The versions of parts that were read so far.
use Rattle.std.proofs.Common.{◌≡◌, ℕ, ◌+◌, ◌<◌, List, [], ◌∷◌, ◌++◌, length, drop, ap, refl, sym, ◌∙◌, append_assoc, true, false}
use Rattle.std.specs.Prelude.{Option, Some, None, is_none, Result, Ok, Err, get_or}
use Rattle.am_wire.specs.declared.unknown.Unknown.{Unknown}
use Rattle.am_gossip.specs.declared.frame.Part.{Part}
use Rattle.am_instance.specs.Deliveries.{Delivery, before_fault, first_fault, rows_in, rows_of}
use Rattle.am_instance.proofs.Arrivals.{before_fault_then}
use Rattle.am_instance.proofs.Judgements.{rows_at}

no_fault : {E : Type 0} (fault : Option E) → true ≡ is_none fault → fault ≡ None
no_fault None sound = refl
no_fault (Some e) sound = absurd cc

before_fault_stop : {A E : Type 0} (xs ys : List (Result A E)) → false ≡ is_none (first_fault xs) → before_fault (xs ++ ys) ≡ before_fault xs
before_fault_stop [] ys faulty = absurd cc
before_fault_stop (Ok x ∷ xs) ys faulty = ap (λ zs. x ∷ zs) (before_fault_stop xs ys faulty)
before_fault_stop (Err e ∷ xs) ys faulty = refl

module _ (unknown : Unknown) (start all so_far : List Delivery) (parts : List Part) (i : ℕ) (part : Part) (within : i < length parts) (is : part ≡ get_or parts i part)
    (added : so_far ++ before_fault (rows_in unknown (drop i parts)) ≡ start ++ all) where
  -- a part was read whole, and those behind it are left
  pub part_added : (more : List Delivery) → true ≡ is_none (first_fault (rows_of unknown part)) → more ≡ so_far ++ before_fault (rows_of unknown part)
      → more ++ before_fault (rows_in unknown (drop (i + 1) parts)) ≡ start ++ all
  part_added more sound grown =
      let rows = rows_of unknown part in
      let rest = rows_in unknown (drop (i + 1) parts) in
      ap (λ (ds : List Delivery). ds ++ before_fault rest) grown ∙ append_assoc so_far (before_fault rows) (before_fault rest)
      ∙ ap (λ (ds : List Delivery). so_far ++ ds) (sym (ap before_fault (rows_at unknown parts i part within is) ∙ before_fault_then rows rest (no_fault (first_fault rows) sound)))
      ∙ added

  -- a part has a fault, and nothing behind it counts
  pub part_stops : (more : List Delivery) → false ≡ is_none (first_fault (rows_of unknown part)) → more ≡ so_far ++ before_fault (rows_of unknown part) → more ≡ start ++ all
  part_stops more faulty grown =
      let rows = rows_of unknown part in
      let rest = rows_in unknown (drop (i + 1) parts) in
      grown
      ∙ ap (λ (ds : List Delivery). so_far ++ ds) (sym (ap before_fault (rows_at unknown parts i part within is) ∙ before_fault_stop rows rest faulty))
      ∙ added
