-- Pairs that are read one after the other.
use Rattle.std.proofs.Common.{◌≡◌, ℕ, Bool, ◌||◌, true, false, List, [], ◌∷◌, ◌++◌, Option, Some, None, Result, Ok, Err, Bor, refl, sym, append_assoc}
use Rattle.std.specs.Prelude.{option_map, is_some, if◌then◌else◌}
use Rattle.std.specs.List.{list_any}
use Rattle.std.proofs.lemmas.List.{map-append}
use Rattle.std.proofs.lemmas.List.Folds.{list_any-append}
use Rattle.std.specs.Option.{option_copied}
use Rattle.std.specs.Str.{bytes_eq}
use Rattle.am_schedule.specs.declared.error.FaultKind.{FaultKind}
use Rattle.am_schedule.specs.declared.error.FaultKind.TheVariants.{Name}
use Rattle.am_schedule.specs.declared.step.Pair.{Pair}
use Rattle.am_schedule.specs.Readings.{◌>>=◌, or_fault}
use Rattle.am_schedule.specs.Lists.{are_new, names_of, pair_in}

-- pairs, and those that come behind them
abbrev pub pairs_behind : List Pair → Option (List Pair) → Result (List Pair) FaultKind
pairs_behind pairs later = or_fault Name later >>= λ more. if are_new (names_of pairs) (names_of more) then Ok (pairs ++ more) else Err Name

-- a new name
pub named_newly : (pairs : List Pair) (pair : Pair) (later : Option (List Pair)) → list_any (λ t. bytes_eq t pair.name) (names_of pairs) ≡ false
    → pairs_behind (pairs ++ pair ∷ []) later ≡ pairs_behind pairs (option_map (λ more. pair ∷ more) later)
named_newly pairs pair None new = refl
named_newly pairs pair (Some more) new = rw new (simp (map-append, append_assoc))

known : (b any : Bool) (old : Option (Unit {0})) → is_some old ≡ any → is_some (if b then Some tt else old) ≡ (any || (b || false))
known true true old is = refl
known true false old is = refl
known false true old is = is
known false false old is = is

-- the names behind one more pair
pub name_known : (pairs : List Pair) (pair : Pair) (text : List ℕ) (old new : Option (Unit {0})) → new ≡ (if bytes_eq pair.name text then Some tt else old)
    → is_some old ≡ list_any (λ t. bytes_eq t text) (names_of pairs) → is_some new ≡ list_any (λ t. bytes_eq t text) (names_of (pairs ++ pair ∷ []))
name_known pairs pair text old new e is = simp (map-append, list_any-append) (rw e (known _ _ old is))

-- what is read of a word
pub pair_read : (read : Option (Bor (List ℕ) × Bor (List ℕ))) (name value : Bor (List ℕ)) (word label text : List ℕ) → option_map (λ p. record { name = p.0.now; value = p.1.now }) read ≡ pair_in word
    → read ≡ Some (name, value) → label ≡ name.now → text ≡ value.now → pair_in word ≡ Some (record { name = label; value = text })
pair_read read name value word label text parts is same_name same_value = rw (same_name, same_value) (sym (rw is at parts))

-- a name that isn't found
pub not_found : (found : Option (Bor (Unit {0}))) (known : Option (Unit {0})) (any is : Bool) → is ≡ is_some found → is ≡ false → option_copied found ≡ known → is_some known ≡ any → any ≡ false
not_found None known any is some none copied same = cc
not_found (Some unit) known any is some none copied same = absurd cc
