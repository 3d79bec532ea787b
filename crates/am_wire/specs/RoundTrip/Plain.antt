-- Values that have no unknown fields.
use Rattle.std.proofs.Common.{◌≡◌, ℕ, List, [], ◌++◌, Option, Some, None, Result, Ok, Err, refl, ap, ◌∙◌}
use Rattle.std.proofs.lemmas.List.{append-nil}
use Rattle.am_wire.specs.declared.error.WireError.{WireError}
use Rattle.am_wire.specs.declared.unknown.Unknown.{Unknown}
use Rattle.am_wire.specs.declared.unknown.Unknown.TheVariants.{Drop, Keep}
use Rattle.am_wire.specs.Expiring.{writes_expiring}
use Rattle.am_wire.specs.Fields.{FieldAt}
use Rattle.am_wire.specs.Reading.{Table, ◌then◌, faults_in, fields_in, fault_or_value, read_by}
use Rattle.am_wire.specs.Unknown.{plainly, writes_with, none, StaysWhole}

-- if nothing is dropped, the same is read
pub plainly_itself : {A : Type 0} (r : Result A WireError) → r ≡ plainly (λ v. v) r
plainly_itself (Ok v) = refl
plainly_itself (Err e) = refl

-- if dropping unknown fields changes only the value, it changes what is read in the same way
pub read_plain : {A : Type 0} (plain : A → A) (table : Table) (tests : ℕ → List FieldAt → Option WireError) (value : List FieldAt → A)
    (place at : ℕ) (bytes : List ℕ)
    → read_by table tests (λ es. plain (value es)) place at bytes ≡ plainly plain (read_by table tests value place at bytes)
read_plain {A} plain table tests value place at bytes =
    by_fault (faults_in table at bytes then tests place (fields_in table at bytes)) (value (fields_in table at bytes))
  where
    by_fault : (fault : Option WireError) (v : A) → fault_or_value fault (plain v) ≡ plainly plain (fault_or_value fault v)
    by_fault (Some e) v = refl
    by_fault None v = refl

-- the text without unknown fields is that of the message and its moment
pub writes_none : (text : List ℕ) (expires_at : ℕ) → writes_with none text expires_at ≡ writes_expiring text expires_at
writes_none text expires_at =
    append-nil (writes_expiring (text ++ []) expires_at) ∙ ap (λ t. writes_expiring t expires_at) (append-nil text)

-- a value that loses nothing is read from its text whether unknown fields are kept or dropped, if it is read when they are kept
pub read_whole : {A : Type 0} (plain : A → A) (reads : Unknown → ℕ → List ℕ → Result A WireError)
    → ((at : ℕ) (bytes : List ℕ) → reads Drop at bytes ≡ plainly plain (reads Keep at bytes))
    → (unknown : Unknown) (v : A) (at : ℕ) (bytes : List ℕ) → StaysWhole plain unknown v → reads Keep at bytes ≡ Ok v → reads unknown at bytes ≡ Ok v
read_whole plain reads dropped Keep v at bytes stays read = read
read_whole plain reads dropped Drop v at bytes stays read = dropped at bytes ∙ ap (plainly plain) read ∙ ap (λ w. Ok w) stays
