-- The versions of a row that were read so far.
use Rattle.std.proofs.Common.{◌≡◌, ◌≢◌, List, [], ◌∷◌, ◌++◌, map, ap, sym, subst, ◌∙◌, append_assoc, true, false}
use Rattle.std.specs.Prelude.{Some, is_none, Result, Ok, Err}
use Rattle.std.specs.List.{All}
use Rattle.std.proofs.lemmas.List.{map-append}
use Rattle.std.proofs.lemmas.List.Elements.{All-push}
use Rattle.am_wire.specs.declared.error.WireError.{WireError}
use Rattle.am_wire.specs.declared.error.WireError.TheVariants as errors
use Rattle.am_wire.specs.Inputs.{GivesNext}
use Rattle.am_instance.specs.Deliveries.{Delivery, before_fault, first_fault}
use Rattle.am_cluster.specs.declared.carried.version.AnyVersion.{AnyVersion}
use Rattle.am_cluster.specs.Contents.{delivery_of, IsValue}

module _ {V : Type 0} (delivered : V → Delivery) where
  -- what was added of a row, of which this is left
  pub record HasAdded (all left : List (Result V WireError)) (old new : List AnyVersion) : Type 0 where
    pub added : map delivery_of new ++ map delivered (before_fault left) ≡ map delivery_of old ++ map delivered (before_fault all)
    pub sound : is_none (first_fault left) ≡ is_none (first_fault all)
    pub values : All IsValue (map delivery_of old) → All IsValue (map delivery_of new)

  module _ (all left : List (Result V WireError)) (old mid : List AnyVersion) (so_far : HasAdded all left old mid) where
    pub added_more : (rest : List (Result V WireError)) (v : V) (w : AnyVersion) (given : Result V WireError) (new : List AnyVersion) → GivesNext left (Some given) rest → given ≡ Ok v
        → delivery_of w ≡ delivered v → IsValue (delivery_of w) → new ≡ mid ++ w ∷ [] → HasAdded all rest old new
    added_more rest v w given new gives is same value grown =
        let first : left ≡ Ok v ∷ rest = subst (λ g. GivesNext left (Some g) rest) is gives in
        let moved : map delivery_of new ≡ map delivery_of mid ++ delivery_of w ∷ [] = ap (map delivery_of) grown ∙ map-append delivery_of mid (w ∷ []) in
        record {
          added =
              ap (λ (ds : List Delivery). ds ++ map delivered (before_fault rest)) moved
              ∙ append_assoc (map delivery_of mid) (delivery_of w ∷ []) (map delivered (before_fault rest))
              ∙ ap (λ (d : Delivery). map delivery_of mid ++ d ∷ map delivered (before_fault rest)) same
              ∙ ap (λ xs. map delivery_of mid ++ map delivered (before_fault xs)) (sym first)
              ∙ so_far.added;
          sound = ap (λ xs. is_none (first_fault xs)) (sym first) ∙ so_far.sound;
          values = λ is_old. subst (All IsValue) (sym moved) (All-push IsValue (map delivery_of mid) (delivery_of w) (so_far.values is_old) value);
        }

    pub all_sound : left ≡ [] → true ≡ is_none (first_fault all)
    all_sound none = sym (ap (λ xs. is_none (first_fault xs)) none) ∙ so_far.sound

    -- a fault came
    module _ (rest : List (Result V WireError)) (e : WireError) (given : Result V WireError) (gives : GivesNext left (Some given) rest) (is : given ≡ Err e) (other : e ≢ errors.Memory) where
      fault : left ≡ Err e ∷ []
      fault = (subst (λ g. GivesNext left (Some g) rest) is gives).2 other

      pub not_sound : false ≡ is_none (first_fault all)
      not_sound = sym (ap (λ xs. is_none (first_fault xs)) fault) ∙ so_far.sound
