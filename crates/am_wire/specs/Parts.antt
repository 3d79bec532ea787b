-- The state of a part of a message's draft after some fields.
use Rattle.std.specs.Prelude.{◌≡◌, ℕ, List}
use Rattle.am_wire.specs.Fields.{FieldAt}
use Rattle.am_wire.specs.declared.parts.Submessage.{Submessage}
use Rattle.am_wire.specs.Reading.{Table, last_place, merged, is_given}

-- the part for the number n is what its payloads, merged, leave
pub record IsPart {D : Type 0} (holds : List FieldAt → D
    → Type 0) (table : Table) (n : ℕ) (es : List FieldAt) (p : Submessage D) : Type 0 where
  pub draft : holds (merged table n es) p.draft
  pub place : p.at ≡ last_place n es
  pub given : p.given ≡ is_given n es
