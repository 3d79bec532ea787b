-- Matchers, one value after the other.
use Rattle.std.proofs.Common.{◌≡◌, ℕ, zero, suc, ◌+◌, ◌<◌, ◌≤◌, List, [], ◌∷◌, ◌++◌, length, take, get_or, map, Some, None, ◌∙◌, refl, arith, Option}
use Rattle.std.proofs.lemmas.List.{take_all}
use Rattle.std.specs.Prelude.{option_and_then, option_map}
use Rattle.serde_json.specs.View.{view, items_view}
use Rattle.serde_json.specs.declared.value.Value.{Value}
use Rattle.am_silence.specs.declared.matcher.Matcher.{Matcher}
use Rattle.am_silence_json.specs.Posts.{matcher_of, matchers_of}

-- the matcher of a value
abbrev pub seen : Value → Option Matcher
seen v = matcher_of (view v)

pub all_found : (vs : List Value) (ms : List Matcher) → map seen vs ≡ map Some ms → matchers_of (items_view vs) ≡ Some ms
all_found [] [] e = refl
all_found [] (m ∷ ms) e = cc
all_found (v ∷ vs) [] e = cc
all_found (v ∷ vs) (m ∷ ms) e =
    let first : seen v ≡ Some m = cc in
    let others : map seen vs ≡ map Some ms = cc in
    rw (first, all_found vs ms others) refl

none_first : (o : Option Matcher) → option_and_then (λ m. option_map (λ ms. m ∷ ms) None) o ≡ None
none_first None = refl
none_first (Some m) = refl

pub one_missing : (vs : List Value) (i : ℕ) (v : Value) → i < length vs → seen (get_or vs i v) ≡ None → matchers_of (items_view vs) ≡ None
one_missing [] i v h e = absurd (omega arith)
one_missing (w ∷ vs) zero v h e = rw e refl
one_missing (w ∷ vs) (suc i) v h e = rw (one_missing vs i v (omega arith) e) (none_first (seen w))

pub whole_found : (vs : List Value) (i : ℕ) (ms : List Matcher) → length vs ≤ i
    → map seen (take i vs) ≡ map Some ms → matchers_of (items_view vs) ≡ Some ms
whole_found vs i ms h e = all_found vs ms (rw take_all at e)
