-- The order of the parts of a pattern, which is checked from its end to its start.
use Rattle.std.specs.Prelude.{ℕ, ◌*◌, ◌&&◌, nat_le, nat_lt, List, [], ◌∷◌, length, Option, Some, None, is_none, unwrap_or, if◌then◌else◌}
use Rattle.am_matcher.specs.declared.re2.pieces.PatternPart.{PatternPart}
use Rattle.am_matcher.specs.declared.re2.pieces.PatternPart.TheVariants.{Atom, Fixed, Repeat, Open, Close, Bar}

-- the state of the check at a place of a pattern, which depends on the parts behind it
pub record Nest : Type 0 where
  -- the number of times that the part before the place is repeated in all, if a repetition is next
  pub waiting : Option ℕ
  -- the number of times that a part at the place is repeated in all, by the groups around it
  pub times : ℕ
  -- the same number for each group around these, the innermost first
  pub outer : List ℕ

-- the state at the end of a pattern
abbrev pub at_end : Nest
at_end = record { waiting = None; times = 1; outer = [] }

-- the state before the start of the innermost group
unfoldable pub opened : Nest → List ℕ → Option Nest
opened nest [] = None
opened nest (times ∷ outer) = if is_none nest.waiting then Some (record { waiting = None; times = times; outer = outer }) else None

-- the state before the end of a group
unfoldable pub closed : Nest → Option Nest
closed nest =
    if nat_lt (length nest.outer) 100
    then Some (record { waiting = None; times = unwrap_or nest.waiting nest.times; outer = nest.times ∷ nest.outer })
    else None

-- the state before a repetition
unfoldable pub repeated : ℕ → Nest → Option Nest
repeated most nest =
    if is_none nest.waiting && nat_le (nest.times * most) 1000
    then Some (record nest { waiting = Some (nest.times * most) })
    else None

-- the state before a part, if the part may stand there
unfoldable pub back_over : PatternPart → Nest → Option Nest
back_over Atom nest = Some (record nest { waiting = None })
back_over Fixed nest = if is_none nest.waiting then Some nest else None
back_over Bar nest = if is_none nest.waiting then Some nest else None
back_over (Repeat most) nest = repeated most nest
back_over Close nest = closed nest
back_over Open nest = opened nest nest.outer

-- the state before all these parts, if they may stand there
unfoldable pub before_all : List PatternPart → Option Nest → Option Nest
before_all [] nest = nest
before_all (part ∷ parts) nest = elim (before_all parts nest) [
  | None ↦ None
  | Some behind ↦ back_over part behind
]
