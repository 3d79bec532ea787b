-- Pieces up to a fault.
use Rattle.std.proofs.Common.{◌≡◌, ℕ, zero, suc, ◌+◌, ◌-◌, ◌<◌, List, [], ◌∷◌, ◌++◌, length, map, take, drop, Result, Ok, Err, refl, sym, ap, subst, ◌∙◌, append_assoc, length-append, take-append-drop, length-take-le, arith, inl, inr, ◌⊎◌}
use Rattle.am_wire.specs.declared.error.WireError.{WireError}
use Rattle.am_wire.specs.Fields.{next_piece, pieces}
use Rattle.am_wire.specs.Grammar.{AreSpelled}
use Rattle.am_wire.specs.Faults.{AreSpelledUntil}
use Rattle.am_wire.specs.RoundTrip.Pieces.{done, Reads, pieces-first, pieces-reads}
use Rattle.am_wire.proofs.Found.{Finds, ok, first_ok, cons_rest}

-- the pieces, and then the fault
abbrev pub until : {A : Type 0} → List A → WireError → List (Result A WireError)
until xs e = map done xs ++ Err e ∷ []

first_err : {A : Type 0} (others : ℕ → List (Result A WireError)) (r : Result (A × ℕ) WireError) (e : WireError) → next_piece others r ≡ Err e ∷ [] → r ≡ Err e
first_err others (Ok x) e h = absurd cc
first_err others (Err d) e h = cc

module _ {A : Type 0} (front : ℕ → List ℕ → Result (A × ℕ) WireError) (Says : A → ℕ → List ℕ → Type 0) (Stops : ℕ → List ℕ → WireError → Type 0) where
  module _ (finds : (at : ℕ) (bytes : List ℕ) (y : A × ℕ) → front at bytes ≡ Ok y → Finds Says y.0 at y.1 bytes) (stops : (at : ℕ) (bytes : List ℕ) (e : WireError) → front at bytes ≡ Err e → Stops at bytes e) where
    pub until_found : (xs : List A) (e : WireError) (at : ℕ) (bytes : List ℕ) → pieces front 0 at bytes ≡ until xs e → AreSpelledUntil Says Stops xs e at bytes
    unfolding pieces
    until_found [] e at [] h = absurd cc
    until_found [] e at (b ∷ bytes) h =
        let all : List ℕ = b ∷ bytes in
        let is = first_err (λ skip. pieces front skip (at + 1) bytes) (front at all) e h in
        let place : at ≡ at + 0 = omega arith in
        record { front = []; rest = all; bytes_are = refl; spelled = refl; filled = omega arith; stops = subst (λ (n : ℕ). Stops n all e) place (stops at all e is) }
    until_found (x ∷ xs) e at [] h = absurd cc
    until_found (x ∷ xs) e at (b ∷ bytes) h =
        let all : List ℕ = b ∷ bytes in
        let f = first_ok (λ skip. pieces front skip (at + 1) bytes) (front at all) x (until xs e) h in
        let len : ℕ = f.0.1 in
        let one = finds at all f.0 f.1 in
        let others : pieces front 0 (at + len) (drop len all) ≡ until xs e = cons_rest (ok f.0.0) (ok x) _ _ (sym (pieces-first front at all f.0 f.1 one.filled one.within) ∙ h) in
        let size : len ≡ length (take len all) = sym (length-take-le len all one.within) in
        let more = until_found xs e (at + len) (drop len all) others in
        let place : at + len + length more.front ≡ at + length (take len all ++ more.front) = omega (arith, length-append (take len all) more.front, size) in
        record {
          front = take len all ++ more.front;
          rest = more.rest;
          bytes_are = sym (take-append-drop len all) ∙ ap (λ (t : List ℕ). take len all ++ t) more.bytes_are ∙ sym (append_assoc (take len all) more.front more.rest);
          spelled = (
            take len all,
            more.front,
            refl,
            subst (λ (y : A). Says y at (take len all)) f.2 one.says,
            subst (λ (n : ℕ). AreSpelled Says xs (at + n) more.front) size more.spelled,
          );
          filled = more.filled;
          stops = subst (λ (n : ℕ). Stops n more.rest e) place more.stops;
        }

  stops_here : (at : ℕ) (bytes : List ℕ) (e : WireError) → front at bytes ≡ Err e → 0 < length bytes → pieces front 0 at bytes ≡ Err e ∷ []
  unfolding pieces
  stops_here at [] e h filled = absurd (omega (arith, filled))
  stops_here at (b ∷ bytes) e h filled = rw h refl

  module _ (each : (x : A) (at : ℕ) (text : List ℕ) → Says x at text → Reads front x at text) where
    -- what is spelled is read, whatever follows
    pub pieces-then : (xs : List A) (at : ℕ) (text rest : List ℕ) → AreSpelled Says xs at text → pieces front 0 at (text ++ rest) ≡ map done xs ++ pieces front 0 (at + length text) rest
    pieces-then [] at text rest is =
        let place : at ≡ at + length text = omega (arith, ap length is) in
        ap (λ (t : List ℕ). pieces front 0 at (t ++ rest)) is ∙ ap (λ (n : ℕ). pieces front 0 n rest) place
    pieces-then (x ∷ xs) at text rest (one_text, others_text, is, one, others) =
        let regroup : text ++ rest ≡ one_text ++ (others_text ++ rest) = ap (λ (t : List ℕ). t ++ rest) is ∙ append_assoc one_text others_text rest in
        let place : at + length one_text + length others_text ≡ at + length text = omega (arith, ap length is, length-append one_text others_text) in
        ap (pieces front 0 at) regroup ∙ pieces-reads front at one_text (others_text ++ rest) x (each x at one_text one)
        ∙ ap (λ (r : List (Result A WireError)). Ok x ∷ r)
        (pieces-then xs (at + length one_text) others_text rest others ∙ ap (λ (n : ℕ). map done xs ++ pieces front 0 n rest) place)

    pub until_read : ((at : ℕ) (bytes : List ℕ) (e : WireError) → Stops at bytes e → front at bytes ≡ Err e)
        → (xs : List A) (e : WireError) (at : ℕ) (bytes : List ℕ) → AreSpelledUntil Says Stops xs e at bytes → pieces front 0 at bytes ≡ until xs e
    until_read fails xs e at bytes is =
        let place : ℕ = at + length is.front in
        ap (pieces front 0 at) is.bytes_are ∙ pieces-then xs at is.front is.rest is.spelled
        ∙ ap (λ (r : List (Result A WireError)). map done xs ++ r) (stops_here place is.rest e (fails place is.rest e is.stops) is.filled)

-- ---- all bytes are pieces, and perhaps a fault
abbrev pub Ends : {A : Type 0} → List (Result A WireError) → Type 0
Ends {A} items = (xs : List A) × ((items ≡ map done xs) ⊎ ((e : WireError) × (items ≡ until xs e)))

ends_cons : {A : Type 0} (x : A) (items : List (Result A WireError)) → Ends items → Ends (Ok x ∷ items)
ends_cons {A} x items (xs, how) =
    elim how [
      | inl whole ↦ (x ∷ xs, inl (ap (λ (r : List (Result A WireError)). Ok x ∷ r) whole))
      | inr faulty ↦ (x ∷ xs, inr (faulty.0, ap (λ (r : List (Result A WireError)). Ok x ∷ r) faulty.1))
    ]

ends_next : {A : Type 0} (others : ℕ → List (Result A WireError)) → ((skip : ℕ) → Ends (others skip)) → (r : Result (A × ℕ) WireError) → Ends (next_piece others r)
ends_next others each (Ok x) = ends_cons x.0 (others (x.1 - 1)) (each (x.1 - 1))
ends_next others each (Err e) = ([], inr (e, refl))

pub pieces_end : {A : Type 0} (front : ℕ → List ℕ → Result (A × ℕ) WireError) (skip at : ℕ) (bytes : List ℕ) → Ends (pieces front skip at bytes)
unfolding pieces
pieces_end front skip at [] = ([], inl refl)
pieces_end front zero at (b ∷ bytes) = ends_next (λ skip. pieces front skip (at + 1) bytes) (λ skip. pieces_end front skip (at + 1) bytes) (front at (b ∷ bytes))
pieces_end front (suc skip) at (b ∷ bytes) = pieces_end front skip (at + 1) bytes

-- ---- in one way only
cons_is : {A : Type 0} (x y : A) (xs ys : List A) (e f : WireError) → until (x ∷ xs) e ≡ until (y ∷ ys) f → (x ≡ y) × (until xs e ≡ until ys f)
cons_is x y xs ys e f h = (cc, cc)

fault_is : {A : Type 0} (e f : WireError) → until {A = A} [] e ≡ until [] f → e ≡ f
fault_is e f h = cc

pub until_is : {A : Type 0} (xs ys : List A) (e f : WireError) → until xs e ≡ until ys f → (xs ≡ ys) × (e ≡ f)
until_is {A} [] [] e f h = (refl, fault_is {A = A} e f h)
until_is [] (y ∷ ys) e f h = absurd cc
until_is (x ∷ xs) [] e f h = absurd cc
until_is {A} (x ∷ xs) (y ∷ ys) e f h =
    let parts = cons_is x y xs ys e f h in
    let rest = until_is xs ys e f parts.1 in
    (ap (λ (z : A). z ∷ xs) parts.0 ∙ ap (λ (zs : List A). y ∷ zs) rest.0, rest.1)

pub whole_or_until : {A : Type 0} (xs ys : List A) (e : WireError) → map done xs ≡ until ys e → ⊥
whole_or_until [] [] e h = cc
whole_or_until [] (y ∷ ys) e h = cc
whole_or_until (x ∷ xs) [] e h = cc
whole_or_until (x ∷ xs) (y ∷ ys) e h = let rest : map done xs ≡ until ys e = cc in whole_or_until xs ys e rest
