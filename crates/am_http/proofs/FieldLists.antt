-- The values of a name, one field further.
use Rattle.std.proofs.Common.{◌≡◌, ℕ, ◌+◌, ◌<◌, Bool, true, false, cond, List, [], ◌∷◌, ◌++◌, length, get_or, take, map, IsTrue, ◌↔◌, slice_range, refl, sym, ap, subst, ◌∙◌, append-nil}
use Rattle.std.proofs.lemmas.List.{take_more, map-append}
use Rattle.std.proofs.lemmas.Bool.Decides.{same_from_decides}
use Rattle.std.proofs.lemmas.Slice.Eq.{bytes_eq-Decides}
use Rattle.std.specs.Char.{to_ascii_lowercase}
use Rattle.std.specs.Str.{str_eq_ignore_ascii_case}
use Rattle.httparse.specs.Spans.{header_bytes}
use Rattle.httparse.specs.declared.spans.HeaderSpan.{HeaderSpan}
use Rattle.am_http.specs.Heads.{NamedValue, values_of}
use Rattle.am_http.specs.Bodies.{NamedIn}
use Rattle.am_http.specs.declared.fields.Named.{Named}

-- the value of one field, if it has the name
abbrev pub value_in : Bool → NamedValue → List (List ℕ)
value_in b f = cond b (f.1 ∷ []) []

behind_one : (b : Bool) (v : List ℕ) (xs ys : List (List ℕ)) → cond b (v ∷ xs ++ ys) (xs ++ ys) ≡ cond b (v ∷ xs) xs ++ ys
behind_one true v xs ys = refl
behind_one false v xs ys = refl

values_of-push : (name : List ℕ) (fs : List NamedValue) (f : NamedValue) → values_of name (fs ++ f ∷ []) ≡ values_of name fs ++ value_in (str_eq_ignore_ascii_case f.0 name) f
values_of-push name [] f = refl
values_of-push name (g ∷ gs) f =
    rw (values_of-push name gs f) (behind_one (str_eq_ignore_ascii_case g.0 name) g.1 (values_of name gs) (value_in (str_eq_ignore_ascii_case f.0 name) f))

-- the test of two names, as a call answers it
pub same_test : (r : Bool) (x y : List ℕ) → (IsTrue r ↔ (map to_ascii_lowercase x ≡ map to_ascii_lowercase y)) → r ≡ str_eq_ignore_ascii_case x y
same_test r x y test = same_from_decides r (str_eq_ignore_ascii_case x y) test (bytes_eq-Decides (map to_ascii_lowercase x) (map to_ascii_lowercase y))

-- the values among the first fields
abbrev pub values_before : List ℕ → List HeaderSpan → List ℕ → ℕ → List (List ℕ)
values_before head fields name i = values_of name (map (header_bytes head) (take i fields))

module _ (head : List ℕ) (fields : List HeaderSpan) (name : List ℕ) (i : ℕ) (d : HeaderSpan) (x : List ℕ) (r : Bool) (inside : i < length fields)
    (name_is : x ≡ slice_range head (get_or fields i d).name.start (get_or fields i d).name.end)
    (test : IsTrue r ↔ (map to_ascii_lowercase x ≡ map to_ascii_lowercase name)) where
  one_more : values_before head fields name (i + 1) ≡ values_before head fields name i ++ value_in r (header_bytes head (get_or fields i d))
  one_more =
      let f = header_bytes head (get_or fields i d) in
      let same : r ≡ str_eq_ignore_ascii_case f.0 name = rw (← name_is) (same_test r x name test) in
      rw (take_more fields i d inside, map-append (header_bytes head) (take i fields) (get_or fields i d ∷ []), same) (values_of-push name (map (header_bytes head) (take i fields)) f)

  -- a field of the name
  pub with_name : (v : List ℕ) (found : Named) → r ≡ true → v ≡ slice_range head (get_or fields i d).value.start (get_or fields i d).value.end
      → NamedIn (values_before head fields name i ++ v ∷ []) found → NamedIn (values_before head fields name (i + 1)) found
  with_name v found has value_is named =
      let f = header_bytes head (get_or fields i d) in
      let e : values_before head fields name (i + 1) ≡ values_before head fields name i ++ v ∷ [] = one_more ∙ ap (λ b. values_before head fields name i ++ value_in b f) has ∙ ap (λ w. values_before head fields name i ++ w ∷ []) (sym value_is) in
      subst (λ values. NamedIn values found) (sym e) named

  -- a field of another name
  pub without_name : (found : Named) → r ≡ false → NamedIn (values_before head fields name i) found → NamedIn (values_before head fields name (i + 1)) found
  without_name found hasnt named =
      let f = header_bytes head (get_or fields i d) in
      let e : values_before head fields name (i + 1) ≡ values_before head fields name i = one_more ∙ ap (λ b. values_before head fields name i ++ value_in b f) hasnt ∙ append-nil (values_before head fields name i) in
      subst (λ values. NamedIn values found) (sym e) named
