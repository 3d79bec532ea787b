-- Parts that are looked at one after the other.
use Rattle.std.proofs.Common.{◌≡◌, ◌≢◌, ℕ, Bool, true, false, cond, List, ◌∷◌, Option, Some, None, Result, Ok, Err, refl, sym, ap, ◌∙◌}
use Rattle.std.specs.Prelude.{bytes_eq}
use Rattle.am_gossip.specs.Keys.{key_text}
use Rattle.am_gossip.specs.Parts.{part_table}
use Rattle.am_wire.specs.Reading.{faults_in, fields_in, last_text}
use Rattle.am_gossip.specs.declared.frame.StateKey.{StateKey}
use Rattle.am_wire.specs.declared.error.WireError.{WireError}
use Rattle.am_wire.specs.declared.error.WireError.TheVariants as wire
use Rattle.am_wire.specs.Fields.{FieldAt}
use Rattle.am_memberlist.specs.Answers.{◌>>=◌, GivesUnlessMemory, wire_fault}
use Rattle.am_memberlist.specs.Rows.{part_row, row_of, row_of_fields, unless, with_part}
use Rattle.am_memberlist.specs.declared.error.AnswerError.{AnswerError}
use Rattle.am_memberlist.specs.declared.error.AnswerError.TheVariants.{Wire}

-- a fault in the states is answered as such
pub wire_gives : {A : Type 0} (e : WireError) (read : Result A AnswerError) → read ≡ Err (Wire e) → GivesUnlessMemory (Err (wire_fault e)) read
wire_gives wire.Memory read is = λ other. absurd (other refl)
wire_gives e read is = λ other. is

-- the part in the next field
pub one_more : (key : StateKey) (found next : Option (List ℕ)) (e : FieldAt) (fields : List (Result FieldAt WireError))
    → with_part key found e ≡ Ok next → row_of_fields key found (Ok e ∷ fields) ≡ row_of_fields key next fields
one_more key found next e fields is = ap (λ (x : Result (Option (List ℕ)) AnswerError). x >>= λ row. row_of_fields key row fields) is

-- a fault in it
pub at_fault : (key : StateKey) (found : Option (List ℕ)) (e : FieldAt) (fields : List (Result FieldAt WireError)) (fault : AnswerError)
    → with_part key found e ≡ Err fault → row_of_fields key found (Ok e ∷ fields) ≡ Err fault
at_fault key found e fields fault is = ap (λ (x : Result (Option (List ℕ)) AnswerError). x >>= λ row. row_of_fields key row fields) is

-- ---- the row of a part without a fault, by its last key and its last data
module _ (key : StateKey) (at : ℕ) (bytes text row : List ℕ) (clean : faults_in part_table at bytes ≡ None)
    (text_is : text ≡ last_text 1 (fields_in part_table at bytes)) (row_is : row ≡ last_text 2 (fields_in part_table at bytes)) where
  of_key : (b : Bool) → bytes_eq text (key_text key) ≡ b → part_row key at bytes ≡ Ok (cond b (Some row) None)
  unfolding part_row
  of_key b same =
      let test : bytes_eq (last_text 1 (fields_in part_table at bytes)) (key_text key) ≡ b = ap (λ (x : List ℕ). bytes_eq x (key_text key)) (sym text_is) ∙ same in
      ap (λ (o : Option WireError). unless o (row_of key (fields_in part_table at bytes))) clean
      ∙ ap (λ (c : Bool). let found : Result (Option (List ℕ)) AnswerError = Ok (cond c (Some (last_text 2 (fields_in part_table at bytes))) None) in found) test
      ∙ ap (λ (r : List ℕ). let found : Result (Option (List ℕ)) AnswerError = Ok (cond b (Some r) None) in found) (sym row_is)

  pub own_row : bytes_eq text (key_text key) ≡ true → part_row key at bytes ≡ Ok (Some row)
  own_row same = of_key true same

  pub other_row : bytes_eq text (key_text key) ≡ false → part_row key at bytes ≡ Ok None
  other_row other = of_key false other

-- a part at fault
pub part_fails : (key : StateKey) (at : ℕ) (bytes : List ℕ) (e : WireError) → (e ≢ wire.Memory → faults_in part_table at bytes ≡ Some e)
    → GivesUnlessMemory {A = Option (List ℕ)} (Err (wire_fault e)) (part_row key at bytes)
unfolding part_row
part_fails key at bytes wire.Memory fault = λ other. absurd (other refl)
part_fails key at bytes e fault =
    λ other. ap (λ (o : Option WireError). unless o (row_of key (fields_in part_table at bytes))) (fault (λ is. other (ap wire_fault is)))
