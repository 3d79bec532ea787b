-- Tables of values, looked up by a text.
use Rattle.std.specs.Prelude.{ℕ, List, Option}
use Rattle.std.specs.Ordering.{nat_cmp}
use Rattle.std.specs.Cmp.Lexicographic.{slice_cmp}
use Rattle.std.specs.Borrow.{Bor}
use Rattle.std.specs.BTreeMap.{BTreeMap, get_by}

-- the value of a text
unfoldable pub value_in : {T : Type 0} → BTreeMap (Bor (List ℕ)) T → List ℕ → Option T
value_in table text = get_by (λ key. slice_cmp nat_cmp text key.now) table
